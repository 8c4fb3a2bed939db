-- A table whose rows are numbered by 16 bits.
use Rattle.std.specs.Prelude.{◌≡◌, ℕ, ◌≤◌, Some, length, slice_get}
use Rattle.class_table.specs.declared.rows.FileRows.{FileRows}
use Rattle.class_table.specs.declared.rows.ClassTable.{ClassTable}

pub record IsSmallFile (f : FileRows) : Type 0 where
  pub classes : length f.classes.items ≤ 65535
  pub methods : length f.methods.items ≤ 65535

pub record IsSmall (t : ClassTable) : Type 0 where
  pub files : length t.files.items ≤ 65535
  pub each : (k : ℕ) (f : FileRows) → slice_get t.files.items k ≡ Some f → IsSmallFile f
