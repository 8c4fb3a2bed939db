use Rattle.std.proofs.Common.{◌∙◌, sym, ap}
use Rattle.std.specs.Prelude.{◌||◌}
use Rattle.class_table.specs.Seen.{row_seen}
use Rattle.class_rules.specs.Rules.{is_module}
use Rattle.class_checks.proofs.supers.is_top.Goals as goal

pub returns-else-is_object : goal.returns-else-is_object
returns-else-is_object c =
    λ f. c.is_module.ensures c.args.class.file f ∙ sym (ap (λ b. b || is_module (row_seen c.args.class.file f c.args.row.now)) (sym c.is_object.ensures ∙ c.if-is_object.false))
