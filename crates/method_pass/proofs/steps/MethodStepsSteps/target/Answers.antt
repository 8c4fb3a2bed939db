use Rattle.std.proofs.Common.{length, sym, ap, ◌∙◌, arith}
use Rattle.std.specs.Prelude.{slice_get}
use Rattle.method_pass.proofs.MethodLaws.{row_there, starts_here, told_here}
use Rattle.method_pass.proofs.steps.MethodStepsSteps.target.Goals as goal

pub returns-then-not-is_start : goal.returns-then-not-is_start
returns-then-not-is_start c =
    λ listed are s found under.
    absurd (cc (sym c.if-not-is_start.true ∙ c.is_start.ensures ∙ starts_here c.args.self.now listed are c.args.at s found))

pub returns : goal.returns
returns c =
    λ listed are s found under.
    let code = c.args.self.now.listing.now.code in
    let stands = c.instruction-instr.ensures in
    let r = row_there code c.args.at c.instruction-instr.result stands in
    let t = told_here c.args.self.now listed are c.args.at s found c.instruction-instr.result r.0 stands r.1 in
    let well = are.goes c.args.at c.instruction-instr.result (starts_here c.args.self.now listed are c.args.at s found) stands in
    ap (λ ts. slice_get ts c.args.branch) t.goes ∙ c.target_of.ensures well

pub returns-then-branch-target_count : goal.returns-then-branch-target_count
returns-then-branch-target_count c =
    λ listed are s found under.
    let code = c.args.self.now.listing.now.code in
    let stands = c.instruction-instr.ensures in
    let r = row_there code c.args.at c.instruction-instr.result stands in
    let t = told_here c.args.self.now listed are c.args.at s found c.instruction-instr.result r.0 stands r.1 in
    let same = ap length t.goes in
    absurd (omega (arith, under, same, c.target_count.ensures code c.args.at, c.if-branch-target_count.true))
