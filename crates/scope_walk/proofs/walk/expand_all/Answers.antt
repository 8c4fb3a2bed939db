use Rattle.std.proofs.Common.{arith}
use Rattle.scope_walk.proofs.Walks.{finished}
use Rattle.scope_walk.proofs.walk.expand_all.Goals as goal

pub returns-clause-resolved : goal.returns-clause-resolved
returns-clause-resolved g c = λ most n few. finished (g.R.References.rows c.args.references.now) c.args.file c.loop-at.walk.resolved.items c.loop-at.walk.found.items c.loop-at.at c.loop-at.invariant.walked (omega (arith, c.loop-at-test.false, c.len.ensures)) most n few
