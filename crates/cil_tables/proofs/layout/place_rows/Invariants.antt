use Rattle.std.proofs.Common.{◌≡◌, ◌+◌, ◌*◌, ◌^◌, ◌≤◌, length}
use Rattle.file_tables.specs.Tables as tables
use Rattle.cil_tables.specs.Shape.{seen}
use Rattle.cil_tables.specs.Layout.{ArePlaced}
use Rattle.cil_tables.proofs.layout.place_rows.Given as goal

abbrev pub invariant-loop-t : goal.invariant-loop-t
invariant-loop-t l = record {
  at : l.at ≡ l.first + tables.sizes_before (seen l.shape) l.t;
  small : l.at ≤ l.first + l.t * 2 ^ 38;
  len : length l.tables ≡ 64;
  tables : ArePlaced (seen l.shape) l.first l.tables l.t;
}
