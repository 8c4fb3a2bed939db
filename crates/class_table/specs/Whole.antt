-- When a table is that of a world: each part of it says what the world's files do.
use Rattle.std.specs.Prelude.{◌≡◌, codes, ℕ, List, [], length, map, Option, Some, slice_get, unwrap_or}
use Rattle.std.specs.Option.{option_copied, option_map}
use Rattle.file_tables.specs.File.{FilePart}
use Rattle.machine.specs.Texts.{same_text}
use Rattle.machine.specs.Throw.{on_some}
use Rattle.assemblies.specs.Rows as rows
use Rattle.assemblies.specs.Binding as binding
use Rattle.world_rows.specs.World.{rows_alone, assemblies_of, size_of}
use Rattle.world_rows.specs.Kinds.{data_of}
use Rattle.class_table.specs.declared.rows.FieldKind.{FieldKind}
use Rattle.class_table.specs.declared.rows.FieldKind.TheVariants as kind
use Rattle.class_table.specs.declared.rows.FieldRow.{FieldRow}
use Rattle.class_table.specs.declared.rows.MethodRow.{MethodRow}
use Rattle.class_table.specs.declared.rows.FileRows.{FileRows}
use Rattle.class_table.specs.declared.rows.ClassTable.{ClassTable}
use Rattle.class_table.specs.Seen.{field_seen, method_seen}
use Rattle.class_table.specs.Outlines.{outline_seen, outlines_at}

-- the fields and methods of a file
abbrev pub fields_at : List FilePart → ℕ → List rows.FieldRow
fields_at files file = unwrap_or (option_map (λ (p : rows.Assembly). p.fields) (slice_get (assemblies_of files) file)) []

abbrev pub methods_at : List FilePart → ℕ → List rows.MethodRow
methods_at files file = unwrap_or (option_map (λ (p : rows.Assembly). p.methods) (slice_get (assemblies_of files) file)) []

-- what a column says of the bytes of a field with data is what the file does
abbrev pub HasData : FieldKind → Option (List ℕ) → Type 0
HasData (kind.Data bytes) there = option_copied bytes ≡ there
HasData _ there = Unit {0}

-- the rows of a table are those of the file, and each has the first type that has it
pub record AreFields (files : List FilePart) (file : ℕ) (xs : List FieldRow) : Type 0 where
  pub fields : binding.numbered (field_seen file) 0 xs ≡ binding.numbered (binding.own_field (size_of (rows_alone files)) (assemblies_of files) file) 0 (fields_at files file)
  pub owners : (n : ℕ) → on_some (slice_get xs n) (λ x. option_map (binding.id_at file) x.owner) ≡ binding.field_owner (assemblies_of files) (binding.id_at file n)
  pub bytes : (n : ℕ) (x : FieldRow) → slice_get xs n ≡ Some x → HasData x.kind (data_of (size_of (rows_alone files)) files (rows_alone files) (binding.id_at file n))

pub record AreMethods (files : List FilePart) (file : ℕ) (xs : List MethodRow) : Type 0 where
  pub methods : binding.numbered (method_seen file) 0 xs ≡ binding.numbered (binding.own_method (size_of (rows_alone files)) (assemblies_of files) file) 0 (methods_at files file)
  pub owners : (n : ℕ) → on_some (slice_get xs n) (λ x. option_map (binding.id_at file) x.owner) ≡ binding.method_owner (assemblies_of files) (binding.id_at file n)

pub record IsFile (files : List FilePart) (file : ℕ) (f : FileRows) : Type 0 where
  pub classes : map outline_seen f.classes.items ≡ outlines_at files file
  pub fields : AreFields files file f.fields.items
  pub methods : AreMethods files file f.methods.items

-- the first file whose assembly has the base library's name
abbrev pub library_number : List FilePart → Option ℕ
library_number files = binding.first_number (λ (p : rows.Assembly). same_text p.name (codes "mscorlib")) (rows_alone files)

pub record IsTable (files : List FilePart) (t : ClassTable) : Type 0 where
  pub count : length t.files.items ≡ length files
  pub rows : (file : ℕ) (f : FileRows) → slice_get t.files.items file ≡ Some f → IsFile files file f
  pub library : t.library ≡ library_number files
  pub size : t.size ≡ size_of (rows_alone files)
