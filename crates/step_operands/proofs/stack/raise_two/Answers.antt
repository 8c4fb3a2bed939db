use Rattle.tiny_ram.specs.Memory.{popped}
use Rattle.step_operands.proofs.stack.raise_two.Goals as goal

pub returns : goal.returns
returns c = λ p outer m s f fs next e second first keeps is. c.raise_one.ensures p outer m s f fs next e second (c.put_back.ensures m (popped f) fs first keeps) is
