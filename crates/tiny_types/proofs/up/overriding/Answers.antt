use Rattle.std.proofs.Common.{◌∙◌, ◌-◌, Some, sym, ap}
use Rattle.std.specs.Prelude.{unwrap_or}
use Rattle.std.specs.Option.{option_map}
use Rattle.member_keys.specs.Seen.{class_seen}
use Rattle.board_ids.specs.Ids.{id_of}
use Rattle.class_table.specs.Seen.{classes_seen}
use Rattle.class_targets.specs.Down.{decided, settled}
use Rattle.class_targets.proofs.DownLaws.{search, search_here, search_ends, search_top, search_on}
use Rattle.tiny_types.proofs.up.overriding.Goals as goal

pub returns-then-is_same : goal.returns-then-is_same
returns-then-is_same c =
    λ m is same.
    let cs = classes_seen c.args.table.now in
    let below = option_map id_of c.up.decided in
    let here = sym c.is_same.ensures ∙ c.if-is_same.true in
    sym (c.up.invariant.rest m is same ∙ search_here cs m (class_seen c.args.owner) c.up.left (class_seen c.up.class) below here ∙ ap (λ d. Some (unwrap_or below d)) same ∙ ap Some (sym c.begin.ensures))

pub returns-then-left-eq0 : goal.returns-then-left-eq0
returns-then-left-eq0 c =
    λ m is same.
    let cs = classes_seen c.args.table.now in
    let below = option_map id_of c.up.decided in
    let apart = sym c.is_same.ensures ∙ c.if-is_same.false in
    sym (c.up.invariant.rest m is same ∙ ap (λ n. option_map (settled below) (search cs m (class_seen c.args.owner) n (class_seen c.up.class))) c.if-left-eq0.true ∙ search_ends cs m (class_seen c.args.owner) (class_seen c.up.class) below apart)

pub returns-in_err-class : goal.returns-in_err-class
returns-in_err-class c =
    λ m is same.
    let cs = classes_seen c.args.table.now in
    let at = class_seen c.up.class in
    let apart = sym c.is_same.ensures ∙ c.if-is_same.false in
    let top = sym c.in_err-class.ensures in
    ap (option_map id_of) c.from_residual.ensures ∙ sym (c.up.invariant.rest m is same ∙ search_top cs m (class_seen c.args.owner) c.up.left at (option_map id_of c.up.decided) apart top)

pub up-preserved : goal.up-preserved
up-preserved c =
    let cs = classes_seen c.args.table.now in
    let at = class_seen c.up.class in
    let below = option_map id_of c.up.decided in
    record {
      rest =
          λ m is same.
          let apart = sym c.is_same.ensures ∙ c.if-is_same.false in
          let above = sym c.in_ok-class.ensures in
          c.up.invariant.rest m is same
          ∙ search_on cs m (class_seen c.args.owner) c.up.left at (class_seen c.in_ok-class.class) below apart c.if-left-eq0.false above
          ∙ ap (λ d. option_map (settled d) (search cs m (class_seen c.args.owner) (c.up.left - 1) (class_seen c.in_ok-class.class))) (sym (c.decide-decided.ensures ∙ ap (λ o. decided o below) (c.own_virtual.ensures m is)));
    }
