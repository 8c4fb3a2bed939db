-- The row of a method, and the class that has it.
use Rattle.std.specs.Prelude.{◌≡◌, Option, Some, None, slice_get}
use Rattle.machine.specs.Data.{Id}
use Rattle.machine.specs.Throw.{on_some}
use Rattle.classes.specs.Queries.{method_at}
use Rattle.member_keys.specs.Seen.{class_seen}
use Rattle.class_table.specs.declared.rows.MethodRow.{MethodRow}
use Rattle.class_table.specs.declared.rows.FileRows.{FileRows}
use Rattle.class_table.specs.declared.rows.ClassTable.{ClassTable}
use Rattle.class_table.specs.Seen.{classes_seen, method_seen}
use Rattle.class_targets.specs.declared.rows.OwnedMethod.{OwnedMethod}

abbrev pub method_found : ClassTable → Id → Option MethodRow
method_found t id = on_some (slice_get t.files.items id.file) (λ (f : FileRows). slice_get f.methods.items id.row)

abbrev pub Owns : ClassTable → Id → Option OwnedMethod → Type 0
Owns t id None = method_at (classes_seen t) id ≡ None
Owns t id (Some o) = ((classes_seen t).method_owner id ≡ Some (class_seen o.owner)) × (method_at (classes_seen t) id ≡ Some (method_seen id.file id.row o.row.now))
