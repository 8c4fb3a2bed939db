use Rattle.std.proofs.Common.{◌*◌, ◌≤◌, ◌^◌, ◌∙◌, length-set, arith}
use Rattle.std.proofs.lemmas.Nat.{mul-le}
use Rattle.cil_tables.specs.Shape.{seen}
use Rattle.cil_tables.specs.Layout.{IsPlaced}
use Rattle.cil_tables.proofs.Ranges.{sizes_more, holds_more}
use Rattle.cil_tables.proofs.layout.place_rows.Goals as goal

pub loop-t-preserved : goal.loop-t-preserved
loop-t-preserved c =
    let shape = seen c.args.shape.now in
    let widths = c.column_widths-widths.ensures in
    let more = sizes_more shape c.loop-t.t in
    let size : c.count.result * c.column_widths-widths.result.row ≤ 2 ^ 32 * 36 = mul-le c.count.result c.column_widths-widths.result.row (2 ^ 32) 36 (omega arith) (omega (arith, widths.small)) in
    let placed : IsPlaced shape c.args.first c.loop-t.t _ = record {
      start = c.loop-t.invariant.at;
      row = widths.row;
      columns = widths.columns;
      few = widths.few;
      start_small = omega arith;
      row_small = widths.small;
    } in
    record {
      at = rw (c.count.ensures, widths.row, more) (omega arith);
      small = omega arith;
      len = length-set c.loop-t.tables c.loop-t.t _ ∙ c.loop-t.invariant.len;
      tables = λ table below other. holds_more (IsPlaced shape c.args.first) c.loop-t.tables c.loop-t.t _ other (omega (arith, c.loop-t.invariant.len)) placed (λ k lower. c.loop-t.invariant.tables k lower other) table below;
    }
