use Rattle.std.proofs.Common.{arith}
use Rattle.type_names.proofs.Walks.{finished}
use Rattle.type_names.proofs.walk.expand_all.Goals as goal

pub returns-clause-resolved : goal.returns-clause-resolved
returns-clause-resolved c = λ most n few. finished c.args.names.now c.args.file c.loop-at.walk.resolved.items c.loop-at.walk.found.items c.loop-at.at c.loop-at.invariant.walked (omega (arith, c.loop-at-test.false, c.len.ensures)) most n few
