use Rattle.pass_steps.proofs.StepLaws.{something, nothing, told, all_lead}
use Rattle.pass_steps.proofs.laws.steps_tell.Goals as goal

pub returns-clause-some : goal.returns-clause-some
returns-clause-some c = something

pub returns-clause-none : goal.returns-clause-none
returns-clause-none c = nothing

pub returns-clause-told : goal.returns-clause-told
returns-clause-told c = told

pub returns-clause-targets : goal.returns-clause-targets
returns-clause-targets c = all_lead
