-- The row of a field.
use Rattle.std.specs.Prelude.{Option, slice_get}
use Rattle.machine.specs.Data.{Id}
use Rattle.machine.specs.Throw.{on_some}
use Rattle.class_table.specs.declared.rows.FieldRow.{FieldRow}
use Rattle.class_table.specs.declared.rows.FileRows.{FileRows}
use Rattle.class_table.specs.declared.rows.ClassTable.{ClassTable}

abbrev pub field_found : ClassTable → Id → Option FieldRow
field_found t id = on_some (slice_get t.files.items id.file) (λ (f : FileRows). slice_get f.fields.items id.row)
