-- What the rows of member references mean.
use Rattle.std.specs.Prelude.{◌≡◌, ℕ, zero, suc, ◌+◌, List, length, map, Option, Some, None, slice_get}
use Rattle.std.specs.Option.{option_map}
use Rattle.file_tables.specs.File.{FilePart}
use Rattle.machine.specs.Data.{Id}
use Rattle.machine.specs.Throw.{on_some}
use Rattle.classes.specs.Queries.{find_field, find_method}
use Rattle.assemblies.specs.Rows.{FieldRefRow, MethodRefRow}
use Rattle.assemblies.specs.Binding.{resolve, expanded, expanded_signature, classes_of}
use Rattle.world_rows.specs.Tokens.{member_refs}
use Rattle.world_rows.specs.World.{rows_alone, assemblies_of, size_of}
use Rattle.member_keys.specs.Seen.{class_seen}
use Rattle.class_table.specs.Whole.{IsTable}
use Rattle.member_search.specs.declared.sort.Sort.TheVariants.{Field, Method}
use Rattle.member_references.specs.declared.members.Members.{Members}
use Rattle.member_references.specs.declared.reference.Reference.{Reference}
use Rattle.member_references.specs.declared.reference.Reference.TheVariants as reference
use Rattle.member_references.specs.declared.reference.References.{References}
use Rattle.member_references.specs.Resolved.{field_of, method_of}

-- by the columns of a row
abbrev pub field_meant : List FilePart → ℕ → FieldRefRow → Option Id
field_meant files file r =
    on_some (resolve (size_of (rows_alone files)) (assemblies_of files) file r.parent) (λ c.
    option_map (λ m. m.id) (find_field (classes_of (size_of (rows_alone files)) (assemblies_of files)) c r.name (expanded (size_of (rows_alone files)) (assemblies_of files) file r.signature)))

abbrev pub method_meant : List FilePart → ℕ → MethodRefRow → Option Id
method_meant files file r =
    on_some (resolve (size_of (rows_alone files)) (assemblies_of files) file r.parent) (λ c.
    option_map (λ m. m.id) (find_method (classes_of (size_of (rows_alone files)) (assemblies_of files)) c r.name (expanded_signature (size_of (rows_alone files)) (assemblies_of files) file r.signature)))

-- the members are those of the world's table
pub record AreMembers (m : Members) : Type 0 where
  pub fields : m.fields.sort ≡ Field
  pub field_table : IsTable m.names.now m.fields.table
  pub methods : m.methods.sort ≡ Method
  pub method_table : IsTable m.names.now m.methods.table

-- what a reference means as one of a field and as one of a method
abbrev pub field_in : Reference → Option Id
field_in (reference.Field c) = option_map class_seen c
field_in (reference.Method c) = None

abbrev pub method_in : Reference → Option Id
method_in (reference.Field c) = None
method_in (reference.Method c) = option_map class_seen c

-- the row of a number from 0 means what its token does
pub record IsMeant (files : List FilePart) (file n : ℕ) (r : Reference) : Type 0 where
  pub field : field_in r ≡ field_of files file member_refs (n + 1)
  pub method : method_in r ≡ method_of files file member_refs (n + 1)

-- the rows of a file, and past them there is nothing
pub record AreMeant (files : List FilePart) (file : ℕ) (rs : List Reference) : Type 0 where
  pub fields : (n : ℕ) → on_some (slice_get rs n) field_in ≡ field_of files file member_refs (n + 1)
  pub methods : (n : ℕ) → on_some (slice_get rs n) method_in ≡ method_of files file member_refs (n + 1)

-- what a row from 1 means
abbrev pub reference_at : References → ℕ → ℕ → Option Reference
reference_at r file zero = None
reference_at r file (suc n) = on_some (slice_get r.files.items file) (λ rs. slice_get rs.items n)

pub record AreReferences (files : List FilePart) (r : References) : Type 0 where
  pub count : length r.files.items ≡ length files
  pub each : (file : ℕ) (rs : List Reference) → slice_get (map (λ v. v.items) r.files.items) file ≡ Some rs → AreMeant files file rs
