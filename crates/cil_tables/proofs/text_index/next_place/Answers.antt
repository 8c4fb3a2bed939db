use Rattle.std.proofs.Common.{arith}
use Rattle.cil_tables.proofs.CharLaws.{over_ascii}
use Rattle.cil_tables.proofs.text_index.next_place.Goals as goal

pub returns-then-heap-at-lt128 : goal.returns-then-heap-at-lt128
returns-then-heap-at-lt128 c = record {
  later = omega arith;
  near = omega arith;
  same = over_ascii c.args.heap.now c.args.at c.requires.inside c.requires.start c.if-heap-at-lt128.true;
}
