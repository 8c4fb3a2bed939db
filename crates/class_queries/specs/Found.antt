-- The row of a class.
use Rattle.std.specs.Prelude.{Option, slice_get}
use Rattle.machine.specs.Data.{Id}
use Rattle.machine.specs.Throw.{on_some}
use Rattle.class_table.specs.declared.rows.ClassRow.{ClassRow}
use Rattle.class_table.specs.declared.rows.FileRows.{FileRows}
use Rattle.class_table.specs.declared.rows.ClassTable.{ClassTable}

abbrev pub found_row : ClassTable → Id → Option ClassRow
found_row t c = on_some (slice_get t.files.items c.file) (λ (f : FileRows). slice_get f.classes.items c.row)
