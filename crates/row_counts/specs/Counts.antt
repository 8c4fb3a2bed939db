-- How many rows a file has of each table of which some rows are kept.
use Rattle.std.specs.Prelude.{◌≡◌, ℕ, List, Some, length, count_by, slice_get}
use Rattle.file_tables.specs.Metadata.{MetadataPart, rows_of, row_count}
use Rattle.file_tables.specs.File.{FilePart}
use Rattle.world_rows.specs.Tokens.{assembly_refs, type_refs, member_refs, type_defs, fields, methods, type_specs, is_field_ref, is_method_ref}
use Rattle.row_numbers.specs.declared.table.Table.{Table}
use Rattle.row_numbers.specs.declared.table.Table.TheVariants as table
use Rattle.row_numbers.specs.declared.table.PerTable.{PerTable}
use Rattle.row_numbers.specs.Tables.{of_table}

abbrev pub table_rows : MetadataPart → Table → ℕ
table_rows m table.AssemblyRef = row_count m assembly_refs
table_rows m table.TypeRef = row_count m type_refs
table_rows m table.FieldRef = count_by (is_field_ref m) (rows_of m member_refs)
table_rows m table.MethodRef = count_by (is_method_ref m) (rows_of m member_refs)
table_rows m table.TypeDef = row_count m type_defs
table_rows m table.Field = row_count m fields
table_rows m table.MethodDef = row_count m methods
table_rows m table.TypeSpec = row_count m type_specs

abbrev pub IsCount : MetadataPart → PerTable → Type 0
IsCount m counts = (t : Table) → of_table counts t ≡ table_rows m t

pub record AreCountsOf (files : List FilePart) (counts : List PerTable) : Type 0 where
  pub count : length counts ≡ length files
  pub each : (f : ℕ) (x : FilePart) (c : PerTable) → slice_get files f ≡ Some x → slice_get counts f ≡ Some c → IsCount x.metadata c
