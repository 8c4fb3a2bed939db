-- The rules of the rows of files.
use Rattle.std.specs.Prelude.{◌≡◌, ℕ, ◌<◌, List, [], ◌++◌, map, length, Some, slice_get}
use Rattle.std.specs.List.{filter}
use Rattle.machine.specs.Data.{Id}
use Rattle.file_tables.specs.Metadata.{MetadataPart, rows_of}
use Rattle.file_tables.specs.File.{FilePart}
use Rattle.kept_rules.specs.Row.{TypeRefAt, FieldRefAt, MethodRefAt, TypeAt, FieldAt, MethodAt, SpecAt}
use Rattle.world_rows.specs.Tokens.{type_refs, type_defs, member_refs, fields, methods, type_specs, interface_impls, is_field_ref, is_method_ref}
use Rattle.class_table.specs.declared.rows.FileRows.{FileRows}
use Rattle.class_table.specs.declared.rows.ClassTable.{ClassTable}
use Rattle.class_table.specs.Seen.{classes_seen}
use Rattle.class_table.specs.Whole.{IsTable}
use Rattle.row_numbers.specs.declared.table.PerTable.{PerTable}
use Rattle.row_rules.specs.declared.rules.RowRules.{RowRules}
use Rattle.row_rules.specs.Links.{Link, Adds, links_from}
use Rattle.row_rules.specs.Named.{named_by_ref, named_by_field_ref, named_by_method_ref, named_by_extends, named_by_field, named_by_method, named_by_spec, interface_link}
use Rattle.body_rules.specs.Code.{code_links}
use Rattle.definition_rules.specs.Definitions.{type_definitions, type_ref_count, field_definitions, field_ref_count, method_definitions, method_ref_count}
use Rattle.member_rules.specs.Members.{enclosing_links, member_links}
use Rattle.slot_links.specs.Slots.{AreReached, slot_links}

-- ---- the rows that a file's rows name

module _ (f : ℕ) (m : MetadataPart) where
  abbrev pub type_ref_links : List Link
  type_ref_links = links_from (TypeRefAt f) (named_by_ref f m) 0 (rows_of m type_refs)

  abbrev pub field_ref_links : List Link
  field_ref_links = links_from (FieldRefAt f) (named_by_field_ref f m) 0 (filter (is_field_ref m) (rows_of m member_refs))

  abbrev pub method_ref_links : List Link
  method_ref_links = links_from (MethodRefAt f) (named_by_method_ref f m) 0 (filter (is_method_ref m) (rows_of m member_refs))

  abbrev pub reference_links : List Link
  reference_links = type_ref_links ++ (field_ref_links ++ method_ref_links)

  abbrev pub field_type_links : List Link
  field_type_links = links_from (FieldAt f) (named_by_field f m) 0 (rows_of m fields)

  abbrev pub spec_links : List Link
  spec_links = links_from (SpecAt f) (named_by_spec f m) 0 (rows_of m type_specs)

  abbrev pub signature_links : List Link
  signature_links = field_type_links ++ spec_links

  abbrev pub type_links : FileRows → List Link
  type_links rows =
      enclosing_links f rows ++ (links_from (TypeAt f) (named_by_extends f m) 0 (rows_of m type_defs) ++ map (interface_link f m) (rows_of m interface_impls))

abbrev pub method_links : ℕ → FilePart → List Link
method_links f x = links_from (MethodAt f) (named_by_method f x.metadata) 0 (rows_of x.metadata methods) ++ code_links f x

-- and those that define what its references name
abbrev pub definition_links : List FilePart → ℕ → MetadataPart → List Link
definition_links files f m =
    type_definitions files f (type_ref_count m) ++ (field_definitions files f (field_ref_count m) ++ method_definitions files f (method_ref_count m))

-- ---- all rules of a file

module _ (files : List FilePart) (t : ClassTable) where
  -- of its metadata, its rows in the table of classes, and what each of its classes reaches
  abbrev pub file_links : ℕ → FilePart → FileRows → List (List Id) → List Link
  file_links f x rows reached =
      reference_links f x.metadata
      ++ (signature_links f x.metadata
      ++ (method_links f x
      ++ (type_links f x.metadata rows
      ++ (definition_links files f x.metadata
      ++ (member_links (classes_seen t) f rows
      ++ slot_links (classes_seen t) f 0 reached)))))

  pub record AreFileLinks (f : ℕ) (links : List Link) : Type 0 where
    pub part : FilePart
    pub at : slice_get files f ≡ Some part
    pub rows : FileRows
    pub rows_at : slice_get t.files.items f ≡ Some rows
    pub reached : List (List Id)
    pub reach : AreReached (classes_seen t) f reached
    pub are : links ≡ file_links f part rows reached

  pub record AddsFile (f : ℕ) (before after : RowRules) : Type 0 where
    pub links : List Link
    pub made : AreFileLinks f links
    pub adds : Adds links before after

  -- a list has the rules of each of the first n files, and no others
  pub record AddsFiles (n : ℕ) (before after : RowRules) : Type 0 where
    pub links : List Link
    pub each : (f : ℕ) → f < n → (part : List Link) × (AreFileLinks f part × ((i : ℕ) (l : Link) → slice_get part i ≡ Some l → (k : ℕ) × (slice_get links k ≡ Some l)))
    pub from : (k : ℕ) (l : Link) → slice_get links k ≡ Some l → (f : ℕ) × ((part : List Link) × (AreFileLinks f part × ((i : ℕ) × (slice_get part i ≡ Some l))))
    pub adds : Adds links before after

-- the rules of all files of a world, over the numbers of rows with these counts
pub record HasRules (files : List FilePart) (counts : List PerTable) (rules : RowRules) : Type 0 where
  pub none : RowRules
  pub counted : none.numbers ≡ counts
  pub empty : none.rules.items ≡ []
  pub table : ClassTable
  pub is_table : IsTable files table
  pub adds : AddsFiles files table (length files) none rules
