use Rattle.std.proofs.Common.{ap, ◌∙◌}
use Rattle.machine_typed.specs.Typing.{is_number}
use Rattle.classes.specs.Classes.{Classes}
use Rattle.classes.specs.Code.{OfType}
use Rattle.code_rules.specs.Verdict.{names_type}
use Rattle.class_table.specs.Seen.{classes_seen}
use Rattle.member_keys.specs.Seen.{type_seen}
use Rattle.bound_operands.proofs.types.is_number_type.Goals as goal

pub returns : goal.returns
returns c = c.holds_number.ensures ∙ ap (λ (cs : Classes). names_type cs is_number (OfType (type_seen c.args.of))) (ap classes_seen c.table.ensures.table ∙ c.types.ensures)
