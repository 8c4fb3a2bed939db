-- The definitions of the references of a file.
use Rattle.std.specs.Prelude.{ℕ, List, [], ◌∷◌, count_by}
use Rattle.std.specs.List.{range_with_len}
use Rattle.std.specs.Option.{option_map}
use Rattle.file_tables.specs.Metadata.{MetadataPart, rows_of, row_count}
use Rattle.file_tables.specs.File.{FilePart}
use Rattle.assemblies.specs.Rows.{Reference}
use Rattle.assemblies.specs.Binding.{resolve_ref, resolve_field, resolve_method}
use Rattle.kept_rules.specs.Row.{Row, TypeRefAt, FieldRefAt, MethodRefAt, in_option}
use Rattle.kept_rules.specs.Rules.{type_at, field_at, method_at}
use Rattle.world_rows.specs.Tokens.{type_refs, member_refs, is_field_ref, is_method_ref}
use Rattle.world_rows.specs.World.{size_of, rows_alone, assemblies_of}
use Rattle.row_rules.specs.Links.{Link, links_from}

-- a row, if there is one
abbrev pub one_row : Row → List Row
one_row r = r ∷ []

module _ (files : List FilePart) (f : ℕ) where
  -- the row that the n-th reference names
  abbrev pub type_definition : ℕ → List Row
  type_definition n = in_option one_row (option_map type_at (resolve_ref (size_of (rows_alone files)) (assemblies_of files) f n))

  abbrev pub field_definition : ℕ → List Row
  field_definition n = in_option one_row (option_map field_at (resolve_field (size_of (rows_alone files)) (assemblies_of files) f (Reference n)))

  abbrev pub method_definition : ℕ → List Row
  method_definition n = in_option one_row (option_map method_at (resolve_method (size_of (rows_alone files)) (assemblies_of files) f (Reference n)))

  -- the rules by which each of the first references keeps it
  abbrev pub type_definitions : ℕ → List Link
  type_definitions count = links_from (TypeRefAt f) type_definition 0 (range_with_len 0 count)

  abbrev pub field_definitions : ℕ → List Link
  field_definitions count = links_from (FieldRefAt f) field_definition 0 (range_with_len 0 count)

  abbrev pub method_definitions : ℕ → List Link
  method_definitions count = links_from (MethodRefAt f) method_definition 0 (range_with_len 0 count)

-- how many references to types, to fields and to methods a file has
abbrev pub type_ref_count : MetadataPart → ℕ
type_ref_count m = row_count m type_refs

abbrev pub field_ref_count : MetadataPart → ℕ
field_ref_count m = count_by (is_field_ref m) (rows_of m member_refs)

abbrev pub method_ref_count : MetadataPart → ℕ
method_ref_count m = count_by (is_method_ref m) (rows_of m member_refs)
