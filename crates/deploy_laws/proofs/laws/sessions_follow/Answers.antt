use Rattle.std.proofs.Common.{ap}
use Rattle.deploy_model.specs.World.{World, run}
use Rattle.deploy_laws.proofs.PlayLaws.{begins_alike, run_append, possible_append}
use Rattle.deploy_laws.proofs.laws.sessions_follow.Goals as goal

pub returns-clause-begins : goal.returns-clause-begins
returns-clause-begins c parts g es w = ap (λ (v : World). run parts es v) (begins_alike parts w g)

pub returns-clause-joins : goal.returns-clause-joins
returns-clause-joins c parts es more w = run_append parts es more w

pub returns-clause-possible : goal.returns-clause-possible
returns-clause-possible c parts es more w these those = possible_append parts es more w these those
