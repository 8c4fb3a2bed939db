use Rattle.machine_rename.proofs.StateLaws.{spent_state}
use Rattle.machine_rename.proofs.law.steps_spent.Goals as goal

pub returns : goal.returns
returns c = spent_state
