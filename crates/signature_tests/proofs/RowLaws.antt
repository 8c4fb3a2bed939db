-- Rows, the fields of a table, and what is told of a row.
use Rattle.std.proofs.Common.{◌≡◌, ℕ, ◌+◌, ◌<◌, Bool, false, List, [], length, Option, Some, None, Result, Ok, Err, refl, sym, ap, ◌∙◌, arith}
use Rattle.std.specs.Prelude.{IfOk, slice_get, unwrap_or}
use Rattle.std.specs.Option.{option_map}
use Rattle.file_tables.specs.declared.schema.Coded.{Coded}
use Rattle.file_tables.specs.Metadata.{MetadataPart}
use Rattle.file_tables.specs.File.{FilePart}
use Rattle.machine.specs.Throw.{on_some}
use Rattle.classes.specs.Classes.{OwnField}
use Rattle.assemblies.specs.Rows.{Assembly}
use Rattle.assemblies.specs.Binding.{id_at, numbered, own_field, resolve}
use Rattle.assemblies.proofs.Numbered.{get_numbered}
use Rattle.assemblies.proofs.Back.{get_there}
use Rattle.world_rows.specs.Tokens.{bytes_at, coded_type}
use Rattle.world_rows.specs.World.{rows_alone, assemblies_of, size_of}
use Rattle.world_rows.proofs.Alone.{resolve_alone}
use Rattle.type_names.specs.Resolved.{class_coded}
use Rattle.class_table.specs.declared.rows.FieldRow.{FieldRow}
use Rattle.class_table.specs.declared.rows.FileRows.{FileRows}
use Rattle.class_table.specs.declared.rows.ClassTable.{ClassTable}
use Rattle.class_table.specs.Seen.{classes_seen, field_seen}
use Rattle.class_table.proofs.TableLaws.{table_law}
use Rattle.class_rules.specs.Rules.{field_signature_fits}
use Rattle.class_table.specs.Seen as seen
use Rattle.class_table.specs.Whole.{fields_at, IsTable}
use Rattle.verdict_rules.specs.World.{world_of, named_class, field_row}
use Rattle.verdict_rules.specs.Members.{own_field_fits}

-- ---- rows

module _ (files : List FilePart) (file : ℕ) (m : MetadataPart) (there : option_map (λ (x : FilePart). x.metadata) (slice_get files file) ≡ Some m) where
  same_metadata : (x : FilePart) → slice_get files file ≡ Some x → m ≡ x.metadata
  same_metadata x e =
      let both : Path (Option MetadataPart) (Some m) (Some x.metadata) = sym there ∙ ap (option_map (λ (y : FilePart). y.metadata)) e in
      cc both

  -- the bytes that a column of a row names
  pub blob_is : (x : FilePart) → slice_get files file ≡ Some x → (at place : ℕ) (blob : List ℕ) → blob ≡ bytes_at m at → at ≡ place → blob ≡ bytes_at x.metadata place
  blob_is x e at place blob told same = told ∙ ap (λ k. bytes_at k at) (same_metadata x e) ∙ ap (bytes_at x.metadata) same

-- what was read of a row that is there
pub read_is : {R : Type 0} (make : List ℕ → R) (o : Option (List ℕ)) (row : List ℕ) (r : R) → Some r ≡ option_map make o → o ≡ Some row → r ≡ make row
read_is {R = R} make o row r read there = let both : Path (Option R) (Some r) (Some (make row)) = read ∙ ap (option_map make) there in cc both

pub if_ok : {A E : Type 0} (r : Result A E) (P Q : A → Type 0) → ((x : A) → P x → Q x) → IfOk r P → IfOk r Q
if_ok (Ok x) P Q step held = step x held
if_ok (Err e) P Q step held = tt

-- ---- the class that a row names

pub class_is : (files : List FilePart) (file : ℕ) (x : FilePart) (coded : Coded) (n : ℕ) → slice_get files file ≡ Some x → class_coded files file coded n ≡ named_class (world_of files) file (coded_type x.metadata coded n)
class_is files file x coded n there =
    ap (λ o. on_some o (λ (f : FilePart). resolve (size_of (rows_alone files)) (rows_alone files) file (coded_type f.metadata coded n))) there
    ∙ sym (resolve_alone files (size_of (rows_alone files)) file (coded_type x.metadata coded n))

-- ---- the field of a row

module _ (files : List FilePart) (file n : ℕ) where
  abbrev made : ℕ → Assembly → Option OwnField
  made k p = option_map (own_field (size_of (rows_alone files)) (assemblies_of files) file k) (slice_get p.fields n)

  among : (o : Option Assembly) → on_some o (made n) ≡ option_map (own_field (size_of (rows_alone files)) (assemblies_of files) file n) (slice_get (unwrap_or (option_map (λ (p : Assembly). p.fields) o) []) n)
  among None = refl
  among (Some p) = refl

  from_none : 0 + n ≡ n
  from_none = omega arith

  at : {A : Type 0} (make : ℕ → A → OwnField) (xs : List A) → slice_get (numbered make 0 xs) n ≡ option_map (make n) (slice_get xs n)
  at make xs = get_numbered make 0 n xs ∙ ap (λ k. option_map (make k) (slice_get xs n)) from_none

  pub field_is : (t : ClassTable) → IsTable files t → file < length files → seen.field_row t (id_at file n) ≡ field_row (world_of files) file n
  field_is t table within = by (get_there t.files.items file (let count : length t.files.items ≡ length files = table.count in omega arith))
    where
      by : (f : FileRows) × (slice_get t.files.items file ≡ Some f) → seen.field_row t (id_at file n) ≡ field_row (world_of files) file n
      by (f, here) =
          ap (λ o. on_some o (λ (f : FileRows). option_map (field_seen file n) (slice_get f.fields.items n))) here
          ∙ sym (at (field_seen file) f.fields.items)
          ∙ ap (λ xs. slice_get xs n) (table.rows file f here).fields.fields
          ∙ at (own_field (size_of (rows_alone files)) (assemblies_of files) file) (fields_at files file)
          ∙ sym (among (slice_get (assemblies_of files) file))

  -- whether it fits, by the row of the table
  pub own_fits : (t : ClassTable) → IsTable files t → file < length files → (row : FieldRow) (r : Bool) → Some (field_seen file n row) ≡ seen.field_row t (id_at file n) → r ≡ field_signature_fits (classes_seen t) (field_seen file n row) → r ≡ own_field_fits (world_of files) (field_row (world_of files) file n)
  own_fits t table within row r found told =
      told
      ∙ ap (λ cs. field_signature_fits cs (field_seen file n row)) (table_law files t table)
      ∙ ap (own_field_fits (world_of files)) (found ∙ field_is t table within)

  pub no_field : (t : ClassTable) → IsTable files t → file < length files → None ≡ seen.field_row t (id_at file n) → false ≡ own_field_fits (world_of files) (field_row (world_of files) file n)
  no_field t table within none = ap (own_field_fits (world_of files)) (none ∙ field_is t table within)
