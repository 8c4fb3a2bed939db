-- The signature of an entry, and what a method that is one keeps.
use Rattle.std.specs.Prelude.{Bool, ◌&&◌, not, Option, slice_get}
use Rattle.machine.specs.Data.{Id}
use Rattle.machine.specs.Throw.{on_some}
use Rattle.classes.specs.Classes.{Classes, Signature}
use Rattle.classes.specs.Queries.{method_at}
use Rattle.class_table.specs.declared.rows.FileRows.{FileRows}
use Rattle.class_table.specs.declared.rows.MethodRow.{MethodRow}
use Rattle.class_table.specs.declared.rows.ClassTable.{ClassTable}
use Rattle.class_table.specs.Seen.{classes_seen, method_owner}
use Rattle.class_rules.specs.Rules.{holds_some, is_main, main_gives, main_takes}

abbrev pub is_main_signature : Classes → Signature → Bool
is_main_signature cs s = not s.has_this && (main_takes cs s.parameters && main_gives cs s.returns)

-- the method is of a type, and may be the entry there
abbrev pub entry_test : ClassTable → Id → Bool
entry_test t id = holds_some (method_owner t id) (λ owner. holds_some (method_at (classes_seen t) id) (is_main (classes_seen t) owner))

-- a method's row
abbrev pub method_found : ClassTable → Id → Option MethodRow
method_found t c = on_some (slice_get t.files.items c.file) (λ (f : FileRows). slice_get f.methods.items c.row)
