use Rattle.step_operands.proofs.Ending.{same_frames}
use Rattle.step_operands.proofs.stack.raise_one.Goals as goal

pub returns : goal.returns
returns c = λ p outer m s f fs next e t keeps is. (same_frames c.put_back.new.ram m f fs e (c.put_back.ensures m f fs t keeps), is)
