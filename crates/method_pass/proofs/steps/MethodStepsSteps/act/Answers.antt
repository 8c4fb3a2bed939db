use Rattle.std.proofs.Common.{sym, ◌∙◌}
use Rattle.forward_pass.proofs.EdgeLaws.{if_ok}
use Rattle.method_pass.proofs.MethodLaws.{row_there, starts_here}
use Rattle.method_pass.proofs.steps.MethodStepsSteps.act.Goals as goal

pub returns-then-not-is_start : goal.returns-then-not-is_start
returns-then-not-is_start c =
    λ listed are s found sound.
    absurd (cc (sym c.if-not-is_start.true ∙ c.is_start.ensures ∙ starts_here c.args.self.now listed are c.args.at s found))

pub returns-in-Some : goal.returns-in-Some
returns-in-Some c =
    if_ok c.act.result c.act.ensures
    (λ broken says. λ listed are s found sound. says listed s are found sound)

pub returns-in-None : goal.returns-in-None
returns-in-None c =
    λ listed are s found sound.
    let r = row_there c.args.self.now.listing.now.code c.args.at c.instruction-instr.result c.instruction-instr.ensures in
    absurd (cc (sym c.in-None.is ∙ c.row.ensures ∙ r.1))
