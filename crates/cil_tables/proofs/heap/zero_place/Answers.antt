use Rattle.cil_tables.proofs.Texts.{first_zero}
use Rattle.cil_tables.proofs.heap.zero_place.Goals as goal

pub returns-then-b-eq0 : goal.returns-then-b-eq0
returns-then-b-eq0 c = first_zero c.args.bytes.now c.loop-i.i c.loop-i-test.true c.loop-i.invariant c.if-b-eq0.true
