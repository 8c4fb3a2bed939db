use Rattle.std.proofs.Common.{◌∙◌, ap, Some, None, List, ℕ, Option}
use Rattle.classes.specs.Classes.{SigType}
use Rattle.set_signatures.proofs.PartLaws.{behind_it, rest_is, void_result}
use Rattle.set_signatures.proofs.parts.returned.Goals as goal

pub returns-then-code-eq-VOID : goal.returns-then-code-eq-VOID
returns-then-code-eq-VOID c =
    ap (λ (rest : List ℕ). Some (behind_it {A = Option SigType} rest None)) (rest_is 1 c.args.bytes.now)
    ∙ void_result c.args.tokens.now c.args.bytes.now c.in-len1-up.len_at_least c.if-code-eq-VOID.true
