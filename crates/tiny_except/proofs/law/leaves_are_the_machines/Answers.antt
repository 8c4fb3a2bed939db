use Rattle.tiny_except.proofs.Holding.{leave_alike}
use Rattle.tiny_except.proofs.law.leaves_are_the_machines.Goals as goal

pub returns : goal.returns
returns c = leave_alike
