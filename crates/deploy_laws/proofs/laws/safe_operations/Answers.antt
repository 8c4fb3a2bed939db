use Rattle.deploy_laws.proofs.Whole.{safe_all}
use Rattle.deploy_laws.proofs.laws.safe_operations.Goals as goal

pub returns-clause-moments : goal.returns-clause-moments
returns-clause-moments c f set start format can size unspent = (safe_all f set start format can size unspent).0

pub returns-clause-end : goal.returns-clause-end
returns-clause-end c f set start format can size unspent = (safe_all f set start format can size unspent).1
