use Rattle.step_numbers.proofs.Taking.{takes}
use Rattle.step_numbers.proofs.stack.take.Goals as goal

pub returns : goal.returns
returns c =
    λ p outer m s f fs g gs b.
    takes p outer c.pop.new.self c.args.ram.now m s f fs g gs b (c.pop.ensures.popped m f fs b.keeps b.ram_frames) c.pop.result (c.pop.ensures.value m f fs b.keeps b.ram_frames)
