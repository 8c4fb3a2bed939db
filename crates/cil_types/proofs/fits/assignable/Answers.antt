use Rattle.std.proofs.Common.{◌∙◌, sym, ap}
use Rattle.machine_typed.specs.Typing.{assignable}
use Rattle.place_types.specs.Types.{stack_in}
use Rattle.cil_types.proofs.fits.assignable.Goals as goal

pub returns-in-Pointer : goal.returns-in-Pointer
returns-in-Pointer c = λ p same. c.pointer_fits.ensures p ∙ sym (ap (λ t. assignable p (stack_in t) (stack_in c.args.to.now)) c.in-Pointer.is)
