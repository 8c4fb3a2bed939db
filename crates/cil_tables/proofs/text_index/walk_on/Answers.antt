use Rattle.std.proofs.Common.{◌+◌, ◌*◌, sym}
use Rattle.cil_tables.proofs.CharLaws.{none_behind, at_zero}
use Rattle.cil_tables.proofs.text_index.walk_on.Goals as goal

pub returns-then-at-heap : goal.returns-then-at-heap
returns-then-at-heap c = sym (none_behind c.args.heap.now (c.args.number * c.args.block + c.args.over) c.if-at-heap.true)

pub returns-then-heap-at-eq0 : goal.returns-then-heap-at-eq0
returns-then-heap-at-eq0 c = sym (at_zero c.args.heap.now (c.args.number * c.args.block + c.args.over) c.if-at-heap.false c.if-heap-at-eq0.true)
