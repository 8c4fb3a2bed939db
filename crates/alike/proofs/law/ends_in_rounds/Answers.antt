use Rattle.alike.proofs.Chains.{stable}
use Rattle.alike.proofs.law.ends_in_rounds.Goals as goal

pub returns : goal.returns
returns c = stable
