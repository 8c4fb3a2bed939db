-- The rows of members, and their columns.
use Rattle.std.specs.Prelude.{ℕ, Bool, true, nat_le, List, [], ◌∷◌, Option, Some, None, slice_get, slice_index}
use Rattle.machine.specs.Data.{Id}
use Rattle.machine.specs.Throw.{on_some}
use Rattle.cil_rows.specs.declared.rows.MethodDefRow.{MethodDefRow}
use Rattle.class_table.specs.declared.rows.FieldRow.{FieldRow}
use Rattle.class_table.specs.declared.rows.MethodRow.{MethodRow}
use Rattle.class_table.specs.declared.rows.FileRows.{FileRows}
use Rattle.class_table.specs.declared.rows.ClassTable.{ClassTable}

abbrev pub field_found : ClassTable → ℕ → ℕ → Option FieldRow
field_found t file n = on_some (slice_get t.files.items file) (λ (f : FileRows). slice_get f.fields.items n)

abbrev pub method_found : ClassTable → ℕ → ℕ → Option MethodRow
method_found t file n = on_some (slice_get t.files.items file) (λ (f : FileRows). slice_get f.methods.items n)

-- a member that may be found isn't before a row
abbrev pub is_not_before : ℕ → Option Id → Bool
is_not_before n None = true
is_not_before n (Some member) = nat_le n member.row

-- the columns of a method by their names, and in their order
abbrev pub def_of : List ℕ → MethodDefRow
def_of row = record { rva = slice_index row 0; impl_flags = slice_index row 1; flags = slice_index row 2; name = slice_index row 3; signature = slice_index row 4; first_param = slice_index row 5 }

abbrev pub columns_of : MethodDefRow → List ℕ
columns_of d = d.rva ∷ d.impl_flags ∷ d.flags ∷ d.name ∷ d.signature ∷ d.first_param ∷ []
