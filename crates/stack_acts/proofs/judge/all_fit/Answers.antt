use Rattle.stack_acts.proofs.Fits.{unequal_types}
use Rattle.stack_acts.proofs.judge.all_fit.Goals as goal

pub returns-then-from-to : goal.returns-then-from-to
returns-then-from-to g c = λ p agrees. unequal_types p c.args.from.now c.args.to.now c.if-from-to.true
