use Rattle.std.proofs.Common.{sym, ◌∙◌, arith}
use Rattle.cil_tables.proofs.CharLaws.{none_behind, at_zero, over_ascii}
use Rattle.cil_tables.proofs.text_index.walk.Goals as goal

pub loop-at-preserved-then-byte-lt128 : goal.loop-at-preserved-then-byte-lt128
loop-at-preserved-then-byte-lt128 c = record {
  same = c.loop-at.invariant.same ∙ over_ascii c.args.heap.now c.loop-at.at (omega arith) c.if-byte-eq0.false c.if-byte-lt128.true;
  near = omega arith;
}

pub returns-then-byte-eq0 : goal.returns-then-byte-eq0
returns-then-byte-eq0 c = sym (c.loop-at.invariant.same ∙ at_zero c.args.heap.now c.loop-at.at (omega arith) c.if-byte-eq0.true)

pub returns-then-at-heap : goal.returns-then-at-heap
returns-then-at-heap c = sym (c.loop-at.invariant.same ∙ none_behind c.args.heap.now c.loop-at.at c.if-at-heap.true)
