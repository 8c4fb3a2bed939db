use Rattle.memory_states.proofs.Frames.{pushed_is}
use Rattle.memory_states.proofs.law.pushes_are_alike.Goals as goal

pub returns : goal.returns
returns c = pushed_is
