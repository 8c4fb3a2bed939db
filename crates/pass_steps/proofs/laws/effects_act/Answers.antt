use Rattle.pass_steps.proofs.SeenLaws.{one_first}
use Rattle.pass_steps.proofs.ActLaws.{leaves, breaks}
use Rattle.pass_steps.proofs.laws.effects_act.Goals as goal

pub returns-clause-left : goal.returns-clause-left
returns-clause-left c = leaves

pub returns-clause-broken : goal.returns-clause-broken
returns-clause-broken c = breaks

pub returns-clause-rows : goal.returns-clause-rows
returns-clause-rows c = one_first
