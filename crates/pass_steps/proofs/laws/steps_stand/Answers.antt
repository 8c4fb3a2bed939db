use Rattle.pass_steps.proofs.StepLaws.{all_lie, all_ranked}
use Rattle.pass_steps.proofs.laws.steps_stand.Goals as goal

pub returns-clause-lie : goal.returns-clause-lie
returns-clause-lie c = all_lie

pub returns-clause-ranked : goal.returns-clause-ranked
returns-clause-ranked c = all_ranked
