-- What the tokens of a world name.
use Rattle.std.specs.Prelude.{◌≡◌, ℕ, ◌+◌, nat_lt, if◌then◌else◌, List, slice_get, Option, Some, None}
use Rattle.ecma_types.specs.declared.id.TypeId.{TypeId}
use Rattle.file_tables.specs.declared.schema.Coded.{Coded}
use Rattle.file_tables.specs.Metadata.{row_count}
use Rattle.file_tables.specs.File.{FilePart}
use Rattle.machine.specs.Data.{Id}
use Rattle.machine.specs.Throw.{on_some}
use Rattle.assemblies.specs.Binding.{resolve, resolve_ref}
use Rattle.world_rows.specs.Tokens.{type_defs, type_token, coded_type, type_named}
use Rattle.world_rows.specs.World.{rows_alone, assemblies_of, size_of}
use Rattle.member_keys.specs.declared.keys.ClassId.{ClassId}
use Rattle.type_names.specs.Walk.{value_at}

-- rows count from 1 where the public calls name them
abbrev pub type_id : Id → TypeId
type_id c = record { file = c.file; row = c.row + 1 }

-- a type, where the world has it
abbrev pub checked : List FilePart → Id → Option TypeId
checked files c = on_some (slice_get files c.file) (λ p. if nat_lt c.row (row_count p.metadata type_defs) then Some (type_id c) else None)

-- what a token of a file names: a table, and a row that counts from 1
abbrev pub class_of : List FilePart → ℕ → ℕ → ℕ → Option Id
class_of files file table row =
    on_some (slice_get files file) (λ f. resolve (size_of (rows_alone files)) (rows_alone files) file (type_token f.metadata table row))

-- in a column and in a signature
abbrev pub class_coded : List FilePart → ℕ → Coded → ℕ → Option Id
class_coded files file coded n =
    on_some (slice_get files file) (λ f. resolve (size_of (rows_alone files)) (rows_alone files) file (coded_type f.metadata coded n))

-- in code
abbrev pub type_resolved : List FilePart → ℕ → ℕ → Option Id
type_resolved files file token =
    on_some (slice_get files file) (λ f. resolve (size_of (rows_alone files)) (assemblies_of files) file (type_named f.metadata token))

-- each reference of each file has the type that it names
abbrev pub AreResolved : List FilePart → List (List (Option ClassId)) → Type 0
AreResolved files all =
    (file : ℕ) (types : List (Option ClassId)) → slice_get all file ≡ Some types → (n : ℕ) → value_at types n ≡ resolve_ref (size_of (rows_alone files)) (rows_alone files) file n
