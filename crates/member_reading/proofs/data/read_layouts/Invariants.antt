use Rattle.std.proofs.Common.{◌≡◌, ℕ, Some, slice_get, length}
use Rattle.std.specs.BTreeMap.{BTreeMap}
use Rattle.file_tables.specs.File.{FilePart}
use Rattle.world_rows.specs.Tokens.{class_layouts}
use Rattle.member_reading.specs.Columns.{FindsRows}
use Rattle.member_reading.proofs.data.read_layouts.Given as goal

abbrev pub invariant-loop-file : goal.invariant-loop-file
invariant-loop-file l = record {
  count : length l.layouts.items ≡ l.file;
  each : (file : ℕ) (f : FilePart) (places : BTreeMap ℕ ℕ) → slice_get l.names file ≡ Some f → slice_get l.layouts.items file ≡ Some places → FindsRows f.metadata class_layouts 2 places;
}
