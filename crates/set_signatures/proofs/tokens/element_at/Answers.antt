use Rattle.std.proofs.Common.{◌∙◌, ap, None, slice_index_or, arith}
use Rattle.set_signatures.specs.declared.tokens.TheConstants.{ELEMENTS}
use Rattle.set_signatures.proofs.TokenLaws.{element_is, no_element}
use Rattle.set_signatures.proofs.tokens.element_at.Goals as goal

pub returns-then-code-lt29 : goal.returns-then-code-lt29
returns-then-code-lt29 c = ap (λ k. slice_index_or ELEMENTS k None) c.from.ensures ∙ element_is c.args.code

pub returns-else-code-lt29 : goal.returns-else-code-lt29
returns-else-code-lt29 c = no_element c.args.code (omega (arith, c.if-code-lt29.false))
