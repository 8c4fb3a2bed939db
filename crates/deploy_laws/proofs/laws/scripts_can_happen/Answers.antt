use Rattle.deploy_model.specs.Play.{playing}
use Rattle.deploy_laws.proofs.PlayLaws.{follows_play, follows_from}
use Rattle.deploy_laws.proofs.laws.scripts_can_happen.Goals as goal

pub returns : goal.returns
returns c parts w turns script stop =
    let so = follows_play parts w turns 0 script (playing w stop) (follows_from parts w stop) in
    (so.led, so.possible)
