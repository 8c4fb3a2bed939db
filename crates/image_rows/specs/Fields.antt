-- The rows of an image's fields and of their data, of the rows of a file that are kept. What fields have is told by the table of
-- classes, and their signatures by the file (II.22.15, II.22.18, II.23.2.4).
use Rattle.std.specs.Prelude.{ℕ, suc, List, [], ◌∷◌, map, length, slice_get}
use Rattle.std.specs.List.{flat_map}
use Rattle.std.specs.Option.{option_map_or}
use Rattle.file_tables.specs.Metadata.{MetadataPart, column_of}
use Rattle.kept_rows.specs.Select.{select}
use Rattle.assemblies.specs.Rows.{FieldRow}
use Rattle.assemblies.specs.Binding.{numbered}
use Rattle.assemblies.specs.Chosen.{field_row_to}
use Rattle.world_rows.specs.Tokens.{fields, bytes_at}
use Rattle.world_rows.specs.Signatures.{field_signature}
use Rattle.image_form.specs.Form.{data_of}
use Rattle.class_table.specs.declared.rows.FieldRow.{FieldRow as FieldColumns}
use Rattle.class_table.specs.declared.rows.FieldKind.{FieldKind as FieldColumn}
use Rattle.class_table.specs.Seen.{field_kind_seen}
use Rattle.msspot_write.specs.declared.parts.PartRow.{PartRow}
use Rattle.msspot_write.specs.Spelt.{field_part, field_parts, data_part}
use Rattle.row_numbers.specs.declared.table.Table.TheVariants as table
use Rattle.kept_marks.specs.Masks.{Masks, choice_of_rows}
use Rattle.converted.specs.Images.{row_cut}

-- ---- the fields of a file

abbrev pub field_with : MetadataPart → FieldColumns → List ℕ → FieldRow
field_with m x blob = record { name = x.name.now; signature = field_signature m blob; kind = field_kind_seen x.kind }

abbrev pub field_read : MetadataPart → ℕ → FieldColumns → FieldRow
field_read m n x = field_with m x (bytes_at m (column_of m fields (suc n) 2))

abbrev pub fields_read : MetadataPart → List FieldColumns → List FieldRow
fields_read m xs = numbered (field_read m) 0 xs

abbrev pub data_count : FieldColumn → ℕ
data_count kind = length (data_of (field_kind_seen kind))

abbrev pub data_made : List ℕ → PartRow
data_made bytes = row_cut (data_part bytes)

abbrev pub datas_of : FieldColumn → List PartRow
datas_of kind = map row_cut (map data_part (data_of (field_kind_seen kind)))

-- of the field of a number
abbrev pub datas_at : List FieldColumns → ℕ → List PartRow
datas_at xs n = option_map_or (λ x. datas_of x.kind) (slice_get xs n) []

module _ (kept : Masks) where
  -- with the next row of data
  abbrev pub field_made : ℕ → FieldRow → PartRow
  field_made next f = row_cut (field_part next (field_row_to (choice_of_rows kept) f))

  abbrev pub fields_at : MetadataPart → List FieldColumns → ℕ → ℕ → List PartRow
  fields_at m xs next n = option_map_or (λ x. field_made next (field_read m n x) ∷ []) (slice_get xs n) []

  -- ---- the two tables

  abbrev pub fields_kept : MetadataPart → List FieldColumns → List FieldRow
  fields_kept m xs = map (field_row_to (choice_of_rows kept)) (select (kept table.Field) (fields_read m xs))

  abbrev pub field_rows : MetadataPart → List FieldColumns → List PartRow
  field_rows m xs = map row_cut (field_parts 0 (fields_kept m xs))

  abbrev pub data_rows : MetadataPart → List FieldColumns → List PartRow
  data_rows m xs = map row_cut (map data_part (flat_map (λ f. data_of f.kind) (fields_kept m xs)))
