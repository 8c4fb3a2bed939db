use Rattle.std.proofs.Common.{ap, ◌∙◌}
use Rattle.machine_typed.specs.Typing.{is_plain}
use Rattle.classes.specs.Classes.{Classes}
use Rattle.classes.specs.Code.{OfType}
use Rattle.code_rules.specs.Verdict.{names_type}
use Rattle.class_table.specs.Seen.{classes_seen}
use Rattle.member_keys.specs.Seen.{element_seen, type_seen}
use Rattle.bound_operands.proofs.TypeLaws.{plain_arrays}
use Rattle.bound_operands.proofs.types.is_plain_type.Goals as goal

pub returns : goal.returns
returns c =
    c.is_plain_element.ensures
    ∙ plain_arrays (classes_seen c.table.result.now) c.args.of.ranks (element_seen c.args.of.element)
    ∙ ap (λ (cs : Classes). names_type cs is_plain (OfType (type_seen c.args.of))) (ap classes_seen c.table.ensures.table ∙ c.types.ensures)
