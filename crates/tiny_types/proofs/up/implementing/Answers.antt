use Rattle.std.proofs.Common.{◌∙◌, Some, sym, ap}
use Rattle.std.specs.Option.{option_map}
use Rattle.classes.specs.Classes.{OwnMethod}
use Rattle.classes.specs.Queries.{own_virtual}
use Rattle.assemblies.proofs.Belong.{some_map}
use Rattle.member_keys.specs.Seen.{class_seen}
use Rattle.board_ids.specs.Ids.{id_of}
use Rattle.class_table.specs.Seen.{classes_seen}
use Rattle.class_targets.specs.Virtual.{Slot, slot_of}
use Rattle.tiny_types.specs.Named.{slot_seen}
use Rattle.class_targets.proofs.DownLaws.{first_here, first_top, first_on}
use Rattle.class_targets.proofs.TargetLaws.{none_of}
use Rattle.tiny_types.proofs.up.implementing.Goals as goal

pub returns-in-Some : goal.returns-in-Some
returns-in-Some c =
    λ m is.
    let cs = classes_seen c.args.table.now in
    let x = some_map slot_of (own_virtual cs m (class_seen c.up.class)) (slot_seen c.in-Some.found) (sym (c.in-Some.ensures m is)) in
    sym
    (ap (option_map (λ (y : OwnMethod). y.id)) (c.up.invariant.rest m is ∙ first_here cs m c.up.left (class_seen c.up.class) x.0 x.1)
    ∙ ap (λ (s : Slot). Some s.id) x.2)

pub returns-in_err-class : goal.returns-in_err-class
returns-in_err-class c =
    λ m is.
    let cs = classes_seen c.args.table.now in
    let at = class_seen c.up.class in
    let none = none_of slot_of (own_virtual cs m at) (c.in_default.ensures m is) in
    let top = sym c.in_err-class.ensures in
    ap (option_map id_of) c.from_residual.ensures ∙ sym (ap (option_map (λ (y : OwnMethod). y.id)) (c.up.invariant.rest m is ∙ first_top cs m c.up.left at none top))

pub up-preserved : goal.up-preserved
up-preserved c =
    let cs = classes_seen c.args.table.now in
    let at = class_seen c.up.class in
    record {
      rest =
          λ m is.
          let none = none_of slot_of (own_virtual cs m at) (c.in_default.ensures m is) in
          let above = sym c.in_ok-class.ensures in
          c.up.invariant.rest m is ∙ first_on cs m c.up.left at (class_seen c.in_ok-class.class) none c.if-left-eq0.false above;
    }
