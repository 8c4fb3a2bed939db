use Rattle.std.proofs.Common.{sym, ◌∙◌}
use Rattle.code_shrink.proofs.Walking.{row_there, rest_stops}
use Rattle.code_shrink.proofs.step.next_step.Goals as goal

pub returns-in_default-clause-none : goal.returns-in_default-clause-none
returns-in_default-clause-none c = λ _. rest_stops c.args.code.now c.args.at c.in_default.field-0 (sym c.instruction.ensures.exact ∙ c.in_default.is)

pub returns-in_err-row-clause-none : goal.returns-in_err-row-clause-none
returns-in_err-row-clause-none c = λ _. absurd (row_there c.args.code.now c.args.at c.in-Ok.instr (sym c.instruction.ensures.exact ∙ c.in-Ok.is) (sym c.row.ensures ∙ c.in_err-row.was {u = tt}))
