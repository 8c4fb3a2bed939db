use Rattle.std.proofs.Common.{◌≤◌, length, length-set, map, take, ap, sym, ◌∙◌, arith}
use Rattle.std.proofs.lemmas.List.{take_more, take_more_set, map-append}
use Rattle.std.proofs.lemmas.List.Sums.{sum_by_push}
use Rattle.file_tables.specs.Tables as tables
use Rattle.cil_tables.specs.Shape.{seen}
use Rattle.cil_tables.proofs.SchemaLaws.{columns_few}
use Rattle.cil_tables.proofs.shape.column_widths.Goals as goal

pub loop-k-preserved : goal.loop-k-preserved
loop-k-preserved c =
    let items = c.columns-of.result.now in
    let width = tables.width_of (seen c.args.shape.now) in
    let few : length items ≤ 9 = rw c.columns-of.ensures (columns_few c.args.table) in
    let one_more = take_more items c.loop-k.k _ c.loop-k-test.true in
    record {
      len = length-set c.loop-k.widths c.loop-k.k c.width-width.result ∙ c.loop-k.invariant.len;
      columns = take_more_set c.loop-k.widths c.loop-k.k c.width-width.result (omega (arith, c.loop-k.invariant.len))
          ∙ rw (c.loop-k.invariant.columns, c.width-width.ensures.width) (sym (ap (map width) one_more ∙ map-append width (take c.loop-k.k items) _));
      row = rw (c.from-row.ensures, c.loop-k.invariant.row, c.width-width.ensures.width) (sym (rw one_more (sum_by_push width (take c.loop-k.k items) _)));
      small = omega (arith, c.width-width.ensures.small, c.from-row.ensures, c.loop-k.invariant.small);
    }
