use Rattle.deploy_laws.proofs.Turns.{turns_enough}
use Rattle.deploy_laws.proofs.laws.turns_suffice.Goals as goal

pub returns : goal.returns
returns c parts g content script stop turns more format size bytes fits one two = turns_enough parts g content script stop turns more format size bytes fits one two
