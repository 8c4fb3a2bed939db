use Rattle.std.proofs.Common.{◌∷◌, refl}
use Rattle.tiny_ram.specs.Memory.{with_frames}
use Rattle.step_operands.proofs.Taking.{takes}
use Rattle.step_operands.proofs.stack.take.Goals as goal

pub returns : goal.returns
returns c =
    λ p outer m s fs gs h k b.
    takes p outer c.pop.new.self c.args.ram.now m s fs gs h k b (c.pop.ensures.popped (with_frames m (h ∷ fs)) h fs b.keeps refl) c.pop.result (c.pop.ensures.value (with_frames m (h ∷ fs)) h fs b.keeps refl)
