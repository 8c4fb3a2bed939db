use Rattle.std.proofs.Common.{length-set, refl, ◌∙◌, arith}
use Rattle.std.proofs.lemmas.List.FromFn.{fill_by_all}
use Rattle.cil_tables.proofs.Ranges.{present_more, filled_more}
use Rattle.cil_tables.specs.Layout.{count_behind}
use Rattle.cil_tables.proofs.layout.read_counts.Goals as goal

pub loop-t-preserved : goal.loop-t-preserved
loop-t-preserved c =
    record {
      at = rw (c.size_if-at.ensures.size, c.has_bit-is_there.ensures, present_more c.args.valid c.loop-t.t) (omega arith);
      small = omega (arith, c.size_if-at.ensures.small);
      len = length-set c.loop-t.counts c.loop-t.t c.count_if.result ∙ c.loop-t.invariant.len;
      counts = filled_more (count_behind c.args.region.now c.args.begin c.args.valid) c.loop-t.counts c.loop-t.t c.count_if.result 0 (omega (arith, c.loop-t.invariant.len)) (rw (c.count_if.ensures, c.has_bit-is_there.ensures, c.loop-t.invariant.at) refl) c.loop-t.invariant.counts;
    }

pub returns-clause-counts : goal.returns-clause-counts
returns-clause-counts c = fill_by_all (count_behind c.args.region.now c.args.begin c.args.valid) c.loop-t.counts 64 0 c.loop-t.invariant.len (λ k below. c.loop-t.invariant.counts k (omega arith))
