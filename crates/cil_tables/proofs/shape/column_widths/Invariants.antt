use Rattle.std.proofs.Common.{◌≡◌, ◌*◌, ◌≤◌, take, map, length}
use Rattle.std.specs.List.{sum_by}
use Rattle.file_tables.specs.Tables as tables
use Rattle.cil_tables.specs.Shape.{seen}
use Rattle.cil_tables.proofs.shape.column_widths.Given as goal

abbrev pub invariant-loop-k : goal.invariant-loop-k
invariant-loop-k l = record {
  len : length l.widths ≡ 9;
  columns : take l.k l.widths ≡ map (tables.width_of (seen l.shape)) (take l.k l.of);
  row : l.row ≡ sum_by (tables.width_of (seen l.shape)) (take l.k l.of);
  small : l.row ≤ 4 * l.k;
}
