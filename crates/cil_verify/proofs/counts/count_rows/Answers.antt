use Rattle.std.proofs.Common.{arith}
use Rattle.cil_verify.proofs.CountLaws.{one_passed, no_more}
use Rattle.cil_verify.proofs.counts.count_rows.Goals as goal

pub loop-file-preserved : goal.loop-file-preserved
loop-file-preserved c =
    let more = one_passed c.args.table c.args.world.now c.loop-file.file c.tables-tables.result.now c.tables-tables.ensures in
    record {
      count = omega (arith, more, c.loop-file.invariant.count, c.rows.ensures, c.from-count.ensures);
      few = omega (arith, c.loop-file.invariant.few, c.from-count.ensures);
    }

pub returns : goal.returns
returns c =
    let none = no_more c.args.table c.args.world.now c.loop-file.file (omega (arith, c.loop-file-test.false, c.files-file-end.ensures.count)) in
    omega (arith, none, c.loop-file.invariant.count)
