use Rattle.deploy_laws.proofs.ReadBack.{set_reads}
use Rattle.deploy_laws.proofs.laws.sets_are_read.Goals as goal

pub returns : goal.returns
returns c f format images bank all few room one = set_reads f format images bank all few room one
