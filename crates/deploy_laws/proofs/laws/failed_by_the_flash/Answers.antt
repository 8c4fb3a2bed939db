use Rattle.deploy_laws.proofs.Matching.{failed_by_flash}
use Rattle.deploy_laws.proofs.laws.failed_by_the_flash.Goals as goal

pub returns : goal.returns
returns c d last p r is command no_want failed = failed_by_flash last d p r is command no_want failed
