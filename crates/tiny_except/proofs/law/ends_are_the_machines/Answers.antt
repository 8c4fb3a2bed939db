use Rattle.tiny_except.proofs.Holding.{ends_alike}
use Rattle.tiny_except.proofs.law.ends_are_the_machines.Goals as goal

pub returns : goal.returns
returns c = ends_alike
