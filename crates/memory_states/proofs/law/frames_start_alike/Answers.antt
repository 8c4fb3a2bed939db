use Rattle.memory_states.proofs.Starts.{start_is}
use Rattle.memory_states.proofs.law.frames_start_alike.Goals as goal

pub returns : goal.returns
returns c = start_is
