use Rattle.std.proofs.Common.{◌≡◌, ◌≤◌, ◌+◌, ◌++◌, drop, map, sum_by}
use Rattle.std.specs.List.{flat_map}
use Rattle.cil_layout.specs.Asked.{row_weight}
use Rattle.cil_layout.specs.Numbers.{reach, rows_from}
use Rattle.cil_layout.specs.Layout.{spelled, column_width}
use Rattle.cil_bytes.proofs.tables.push_rows.Given as goal

abbrev pub invariant-loop-row : goal.invariant-loop-row
invariant-loop-row l = record {
  done : l.out.items ++ flat_map (spelled (map (column_width l.widths) l.columns)) (rows_from l.table l.at (drop l.row-index l.rows)) ≡ l.fn.out.items ++ flat_map (spelled (map (column_width l.widths) l.columns)) (rows_from l.table l.fn.start l.rows);
  room : reach l.at + sum_by row_weight (drop l.row-index l.rows) ≤ 5000000;
}
