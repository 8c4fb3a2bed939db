use Rattle.std.proofs.Common.{ℕ, ap, ◌∙◌, arith, slice_index, length, length-append}
use Rattle.member_reading.proofs.ColumnLaws.{column_more}
use Rattle.member_reading.proofs.column.column_numbers.Goals as goal

pub loop-n-preserved : goal.loop-n-preserved
loop-n-preserved c =
    let pushed = c.in_ok-push.ensures.items in
    record {
      numbers =
          pushed
          ∙ column_more c.args.tables.now c.args.table c.loop-n.n (λ row. slice_index row c.args.column) c.loop-n.numbers.items _ (omega arith) c.loop-n.invariant.numbers (c.row-row.ensures c.args.column);
      count = omega (arith, length-append {A = ℕ}, ap length pushed, c.loop-n.invariant.count);
    }
