use Rattle.std.proofs.Common.{[], refl}
use Rattle.std.proofs.lemmas.Bool.{true≢false}
use Rattle.std.proofs.Common.{sym}
use Rattle.deploy_model.specs.World.{asleep}
use Rattle.deploy_laws.proofs.Numbered.{in_order}
use Rattle.deploy_laws.proofs.laws.numbers_in_order.Goals as goal

pub returns-clause-order : goal.returns-clause-order
returns-clause-order c parts content es = (in_order parts es (asleep content) [] (record { order = refl; last = λ on. absurd (true≢false (sym on)) })).order

pub returns-clause-last : goal.returns-clause-last
returns-clause-last c parts content es on = (in_order parts es (asleep content) [] (record { order = refl; last = λ off. absurd (true≢false (sym off)) })).last on
