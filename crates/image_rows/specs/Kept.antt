-- The rows of an image's tables that say what a file refers to: of each row of the file that is kept, its part with its tokens as
-- those of kept rows.
use Rattle.std.specs.Prelude.{ℕ, List, map, slice_index}
use Rattle.std.specs.List.{filter}
use Rattle.file_tables.specs.Metadata.{MetadataPart, rows_of}
use Rattle.kept_rows.specs.Select.{select}
use Rattle.assemblies.specs.Chosen.{raw_to, ref_to, field_ref_to, method_ref_to}
use Rattle.world_rows.specs.Tokens.{type_refs, member_refs, type_specs, assembly_refs, bytes_at, is_field_ref, is_method_ref}
use Rattle.world_rows.specs.Signatures.{spec_signature}
use Rattle.world_rows.specs.Rows.{assembly_ref, type_ref, field_ref, method_ref}
use Rattle.msspot_write.specs.declared.parts.PartRow.{PartRow}
use Rattle.msspot_write.specs.Spelt.{assembly_part, ref_part, field_ref_part, method_ref_part, spec_part}
use Rattle.row_numbers.specs.declared.table.Table.TheVariants as table
use Rattle.kept_marks.specs.Masks.{Masks, choice_of_rows}
use Rattle.converted.specs.Images.{row_cut}

-- ---- of one row (II.22)

abbrev pub assembly_part_of : MetadataPart → List ℕ → PartRow
assembly_part_of m row = row_cut (assembly_part (assembly_ref m row))

module _ (kept : Masks) (m : MetadataPart) where
  abbrev pub reference_part_of : List ℕ → PartRow
  reference_part_of row = row_cut (ref_part (ref_to (choice_of_rows kept) (type_ref m row)))

  abbrev pub field_reference_part_of : List ℕ → PartRow
  field_reference_part_of row = row_cut (field_ref_part (field_ref_to (choice_of_rows kept) (field_ref m row)))

  abbrev pub method_reference_part_of : List ℕ → PartRow
  method_reference_part_of row = row_cut (method_ref_part (method_ref_to (choice_of_rows kept) (method_ref m row)))

  abbrev pub spec_part_of : List ℕ → PartRow
  spec_part_of row = row_cut (spec_part (raw_to (choice_of_rows kept) (spec_signature m (bytes_at m (slice_index row 0)))))

  -- ---- of those that are kept

  abbrev pub assembly_rows : List PartRow
  assembly_rows = map (assembly_part_of m) (select (kept table.AssemblyRef) (rows_of m assembly_refs))

  abbrev pub reference_rows : List PartRow
  reference_rows = map reference_part_of (select (kept table.TypeRef) (rows_of m type_refs))

  abbrev pub field_reference_rows : List PartRow
  field_reference_rows = map field_reference_part_of (select (kept table.FieldRef) (filter (is_field_ref m) (rows_of m member_refs)))

  abbrev pub method_reference_rows : List PartRow
  method_reference_rows = map method_reference_part_of (select (kept table.MethodRef) (filter (is_method_ref m) (rows_of m member_refs)))

  abbrev pub spec_rows : List PartRow
  spec_rows = map spec_part_of (select (kept table.TypeSpec) (rows_of m type_specs))
