use Rattle.deploy_laws.proofs.Events.{sound}
use Rattle.deploy_laws.proofs.laws.sound_worlds.Goals as goal

pub returns : goal.returns
returns c parts content es format size bytes possible = sound parts content es format size bytes possible
