use Rattle.std.proofs.Common.{arith, sym}
use Rattle.std.specs.Prelude.{None}
use Rattle.std.proofs.lemmas.List.{get_or_past}
use Rattle.cil_sig.specs.declared.elements.TheConstants.{ELEMENTS}
use Rattle.cil_sig.specs.Elements.{element_of}
use Rattle.cil_sig.proofs.elements.element.Goals as goal

pub returns-else-code-lt29 : goal.returns-else-code-lt29
unfolding element_of
returns-else-code-lt29 c = sym (get_or_past ELEMENTS c.args.code None (omega arith))
