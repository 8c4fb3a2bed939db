use Rattle.pass_steps.proofs.OrderLaws.{orders, effects_order, up_order}
use Rattle.pass_steps.proofs.laws.orders_agree.Goals as goal

pub returns-clause-pass : goal.returns-clause-pass
returns-clause-pass c = orders

pub returns-clause-effects : goal.returns-clause-effects
returns-clause-effects c = effects_order

pub returns-clause-world : goal.returns-clause-world
returns-clause-world c = up_order
