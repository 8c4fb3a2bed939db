use Rattle.deploy_laws.proofs.KeptFact.{kept_fact}
use Rattle.deploy_laws.proofs.laws.kept_by_operations.Goals as goal

pub returns : goal.returns
returns c f set start room bytes size = kept_fact f set start room bytes size
