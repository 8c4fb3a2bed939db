use Rattle.std.proofs.Common.{◌∙◌, sym, ap}
use Rattle.std.specs.Option.{option_map}
use Rattle.member_keys.specs.Seen.{class_seen}
use Rattle.class_table.specs.Seen.{classes_seen}
use Rattle.class_slots.proofs.MadeLaws.{made_within, made_here, made_ends, made_top, made_on}
use Rattle.class_slots.proofs.added.made_from.Goals as goal

pub returns-then-has_objects : goal.returns-then-has_objects
returns-then-has_objects c =
    let cs = classes_seen c.args.table.now in
    sym (c.up.invariant.rest ∙ made_here cs c.up.left (class_seen c.up.class) (sym c.has_objects.ensures ∙ c.if-has_objects.true))

pub returns-then-left-eq0 : goal.returns-then-left-eq0
returns-then-left-eq0 c =
    let cs = classes_seen c.args.table.now in
    sym (c.up.invariant.rest ∙ ap (λ n. made_within cs n (class_seen c.up.class)) c.if-left-eq0.true ∙ made_ends cs (class_seen c.up.class) (sym c.has_objects.ensures ∙ c.if-has_objects.false))

pub returns-in_err-class : goal.returns-in_err-class
returns-in_err-class c =
    let cs = classes_seen c.args.table.now in
    ap (option_map class_seen) c.from_residual.ensures ∙ sym (c.up.invariant.rest ∙ made_top cs c.up.left (class_seen c.up.class) (sym c.has_objects.ensures ∙ c.if-has_objects.false) (sym c.in_err-class.ensures))

pub up-preserved : goal.up-preserved
up-preserved c =
    let cs = classes_seen c.args.table.now in
    record { rest = c.up.invariant.rest ∙ made_on cs c.up.left (class_seen c.up.class) (class_seen c.in_ok-class.class) (sym c.has_objects.ensures ∙ c.if-has_objects.false) c.if-left-eq0.false (sym c.in_ok-class.ensures) }
