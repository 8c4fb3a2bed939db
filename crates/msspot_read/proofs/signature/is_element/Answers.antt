use Rattle.std.proofs.Common.{◌∙◌, ap, false, slice_index_or, arith}
use Rattle.msspot_read.specs.declared.signature.TheConstants.{ELEMENTS}
use Rattle.msspot_read.proofs.SigLaws.{element_is, no_element}
use Rattle.msspot_read.proofs.signature.is_element.Goals as goal

pub returns-then-code-lt29 : goal.returns-then-code-lt29
returns-then-code-lt29 c = ap (λ k. slice_index_or ELEMENTS k false) c.from.ensures ∙ element_is c.args.code

pub returns-else-code-lt29 : goal.returns-else-code-lt29
returns-else-code-lt29 c = no_element c.args.code (omega (arith, c.if-code-lt29.false))
