use Rattle.enough_steps.proofs.Whole.{program}
use Rattle.enough_steps.proofs.law.own_size_is_enough.Goals as goal

pub returns : goal.returns
returns c = program
