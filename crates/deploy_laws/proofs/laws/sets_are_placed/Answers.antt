use Rattle.deploy_laws.proofs.Placing.{all_placed}
use Rattle.deploy_laws.proofs.laws.sets_are_placed.Goals as goal

pub returns : goal.returns
returns c f set start room bytes size = all_placed f set start room bytes size
