use Rattle.tiny_ram.specs.Memory.{popped}
use Rattle.step_operands.proofs.stack.raise_three.Goals as goal

pub returns : goal.returns
returns c = λ p outer m s f fs next e third second first keeps is. c.raise_one.ensures p outer m s f fs next e third (c.put_back-2.ensures m (popped f) fs second (c.put_back.ensures m (popped (popped f)) fs first keeps)) is
