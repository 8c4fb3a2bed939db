-- The parts that are made of one file's kept rows: of the file itself, and of its rows in the table of classes.
use Rattle.std.specs.Prelude.{◌≡◌, ℕ, List, [], ◌∷◌, ◌++◌, length, Option}
use Rattle.file_tables.specs.Metadata.{MetadataPart, row_count}
use Rattle.file_tables.specs.File.{FilePart}
use Rattle.world_rows.specs.Tokens.{type_defs, fields, methods}
use Rattle.class_table.specs.declared.rows.FileRows.{FileRows}
use Rattle.msspot_write.specs.declared.parts.PartRow.{PartRow}
use Rattle.msspot_write.specs.declared.parts.Parts.{Parts}
use Rattle.kept_marks.specs.Masks.{Masks}
use Rattle.image_rows.specs.Kept.{assembly_rows, reference_rows, field_reference_rows, method_reference_rows, spec_rows}
use Rattle.image_rows.specs.Types.{type_rows, interface_rows}
use Rattle.image_rows.specs.Fields.{field_rows, data_rows}
use Rattle.image_rows.specs.Header.{version_read, name_read, entry_kept}
use Rattle.image_methods.specs.Methods.{method_rows, clause_rows}
use Rattle.kept_bodies.specs.Literals.{literal_rows}

-- the table of classes has as many rows as the file
pub record AreAsMany (m : MetadataPart) (rows : FileRows) : Type 0 where
  pub classes : length rows.classes.items ≡ row_count m type_defs
  pub fields : length rows.fields.items ≡ row_count m fields
  pub methods : length rows.methods.items ≡ row_count m methods

module _ (kept : Masks) (x : FilePart) (rows : FileRows) where
  -- ---- the tables in order: 0 to 3 what it refers to, 4 to 6 types, 7 and 8 methods, and what they all name

  abbrev pub references_made : List (List PartRow)
  references_made = assembly_rows kept x.metadata ∷ reference_rows kept x.metadata ∷ field_reference_rows kept x.metadata ∷ method_reference_rows kept x.metadata ∷ []

  abbrev pub types_made : List (List PartRow)
  types_made = type_rows kept x.metadata rows.classes.items ∷ interface_rows kept x.metadata ∷ field_rows kept x.metadata rows.fields.items ∷ []

  abbrev pub methods_made : List (List PartRow)
  methods_made = method_rows kept x rows.methods.items ∷ clause_rows kept x ∷ []

  abbrev pub values_made : List (List PartRow)
  values_made = spec_rows kept x.metadata ∷ data_rows kept x.metadata rows.fields.items ∷ []

  abbrev pub tables_made : List (List PartRow)
  tables_made = references_made ++ (types_made ++ (methods_made ++ values_made))

  -- ---- with the row of the method that a run begins with

  abbrev pub parts_made : Option ℕ → Parts
  parts_made entry =
      record {
        version = version_read x.metadata;
        name = name_read x.metadata;
        entry = entry_kept kept entry;
        tables = tables_made;
        literals = literal_rows kept x;
      }
