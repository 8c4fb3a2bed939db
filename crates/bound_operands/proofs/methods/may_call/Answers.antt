use Rattle.std.proofs.Common.{ap, ◌∙◌}
use Rattle.std.specs.Prelude.{not}
use Rattle.classes.specs.Classes.{Classes}
use Rattle.classes.specs.Code.{OfMethod}
use Rattle.code_rules.specs.Verdict.{names_method}
use Rattle.class_table.specs.Seen.{classes_seen}
use Rattle.member_keys.specs.Seen.{class_seen}
use Rattle.bound_operands.proofs.methods.may_call.Goals as goal

pub returns : goal.returns
returns c = c.is_concrete.ensures ∙ ap (λ (cs : Classes). names_method cs (λ owner m. not m.is_abstract) (OfMethod (class_seen c.args.method))) (ap classes_seen c.table.ensures.table ∙ c.types.ensures)
