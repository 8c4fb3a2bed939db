use Rattle.std.proofs.Common.{◌∙◌, sym, ap}
use Rattle.std.specs.Prelude.{◌||◌}
use Rattle.class_checks.proofs.SuperLaws.{or_true, or_false}
use Rattle.class_checks.proofs.supers.stands_alone.Goals as goal

pub returns-then-is_top : goal.returns-then-is_top
returns-then-is_top c =
    λ f. c.if-is_top.true ∙ sym (ap (λ b. c.args.row.now.is_interface || b) (sym (c.is_top.ensures f) ∙ c.if-is_top.true) ∙ or_true c.args.row.now.is_interface)

pub returns-else-is_top : goal.returns-else-is_top
returns-else-is_top c =
    λ f. sym (ap (λ b. c.args.row.now.is_interface || b) (sym (c.is_top.ensures f) ∙ c.if-is_top.false) ∙ or_false c.args.row.now.is_interface)
