use Rattle.std.proofs.Common.{arith}
use Rattle.cil_world.proofs.CountLaws.{size_more}
use Rattle.cil_world.proofs.counts.count_types.Goals as goal

pub loop-file-preserved : goal.loop-file-preserved
loop-file-preserved c =
    let more = size_more c.args.names.now c.loop-file.file c.tables-tables.result.now c.tables-tables.ensures in
    record {
      size = omega (arith, more, c.loop-file.invariant.size, c.rows.ensures, c.from.ensures, c.rows-in-loop-file.ensures, c.from-in-loop-file.ensures);
      few = omega (arith, c.loop-file.invariant.few, c.from.ensures, c.from-in-loop-file.ensures);
    }
