-- What the types of a file are looked up by.
use Rattle.std.specs.Prelude.{◌≡◌, ℕ, suc, ◌<◌, nat_lt, Bool, false, List, Option, Some, None, slice_get, unwrap_or}
use Rattle.std.specs.List.{position}
use Rattle.file_tables.specs.Metadata.{MetadataPart, rows_of, row_of, row_count}
use Rattle.file_tables.specs.File.{FilePart}
use Rattle.classes.specs.Classes.{Reference}
use Rattle.assemblies.specs.Binding.{numbered}
use Rattle.world_rows.specs.Tokens.{type_defs, class_layouts}
use Rattle.world_rows.specs.Rows.{type_row}
use Rattle.type_names.specs.Names.{TypeName, same_name, type_name, type_name_at}
use Rattle.class_table.specs.declared.rows.ClassRow.{ClassRow}
use Rattle.member_reading.specs.Columns.{FindsRows}
use Rattle.type_tests.specs.declared.columns.TypeColumns.{TypeColumns}

-- the names of a row of a table
abbrev pub class_name : ClassRow → TypeName
class_name c = record { enclosing = c.enclosing; namespace = c.namespace.now; name = c.name.now }

-- the first type of a file with the names
abbrev pub first_of_name : MetadataPart → TypeName → Option ℕ
first_of_name m name = position (λ t. same_name name (type_name t)) (numbered (type_row m (λ n. Reference)) 0 (rows_of m type_defs))

-- a place that was found stands before another
abbrev pub precedes : ℕ → Option ℕ → Bool
precedes n None = false
precedes n (Some first) = nat_lt first n

-- which types stand behind one of their names, and the first layout of each type
pub record IsColumns (m : MetadataPart) (c : TypeColumns) : Type 0 where
  pub repeats : (n : ℕ) → n < row_count m type_defs → unwrap_or (slice_get c.repeats.items n) false ≡ precedes n (first_of_name m (type_name_at m n (row_of m type_defs (suc n))))
  pub layouts : FindsRows m class_layouts 2 c.layouts

-- of a file of a world
abbrev pub AreColumns : List FilePart → ℕ → TypeColumns → Type 0
AreColumns files file c = (x : FilePart) → slice_get files file ≡ Some x → IsColumns x.metadata c
