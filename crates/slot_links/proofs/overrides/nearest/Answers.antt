use Rattle.std.proofs.Common.{◌∙◌, sym, ap}
use Rattle.std.specs.Option.{option_map}
use Rattle.classes.specs.Classes.{OwnMethod}
use Rattle.classes.specs.Queries.{superclass_of}
use Rattle.member_keys.specs.Seen.{class_seen}
use Rattle.class_table.specs.Seen.{classes_seen}
use Rattle.slot_links.proofs.OwnLinks.{none_above, found_above}
use Rattle.slot_links.proofs.overrides.nearest.Goals as goal

pub returns-in_err-above : goal.returns-in_err-above
returns-in_err-above c =
    λ m is.
    let cs = classes_seen c.args.methods.now.table in
    let at = class_seen c.args.class in
    let top = ap (λ t. superclass_of (classes_seen t) at) (sym c.table.ensures) ∙ sym c.in_err-above.ensures in
    ap (option_map class_seen) c.from_residual.ensures ∙ sym (ap (option_map (λ (y : OwnMethod). y.id)) (none_above cs m at top))

pub returns : goal.returns
returns c =
    λ m is.
    let cs = classes_seen c.args.methods.now.table in
    let at = class_seen c.args.class in
    let up = ap (λ t. superclass_of (classes_seen t) at) (sym c.table.ensures) ∙ sym c.in_ok-above.ensures in
    c.implementing.ensures m is ∙ sym (ap (option_map (λ (y : OwnMethod). y.id)) (found_above cs m at (class_seen c.in_ok-above.above) up))
