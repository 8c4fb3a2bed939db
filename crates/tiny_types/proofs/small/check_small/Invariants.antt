use Rattle.std.proofs.Common.{◌≡◌, ℕ, ◌<◌}
use Rattle.std.specs.Prelude.{Some, slice_get}
use Rattle.class_table.specs.declared.rows.FileRows.{FileRows}
use Rattle.tiny_types.specs.Small.{IsSmallFile}
use Rattle.tiny_types.proofs.small.check_small.Given as goal

abbrev pub invariant-loop-file : goal.invariant-loop-file
invariant-loop-file l = (k : ℕ) (f : FileRows) → k < l.file-index → slice_get l.table.files.items k ≡ Some f → IsSmallFile f
