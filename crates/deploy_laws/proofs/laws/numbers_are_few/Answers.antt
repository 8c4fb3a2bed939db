use Rattle.std.proofs.Common.{refl, arith}
use Rattle.deploy_model.specs.World.{asleep, run}
use Rattle.deploy_laws.proofs.Counted.{few}
use Rattle.deploy_laws.proofs.Few.{all_counted}
use Rattle.deploy_laws.proofs.laws.numbers_are_few.Goals as goal

pub returns : goal.returns
returns c parts content es possible =
    let low = few (run parts es (asleep content)).tool (all_counted parts es (asleep content) possible (omega arith, refl)) in omega arith
