-- What the tokens of fields and methods name in a world (II.22.15, II.22.25, II.22.26).
use Rattle.std.specs.Prelude.{ℕ, ◌+◌, nat_lt, if◌then◌else◌, List, slice_get, Option, Some, None}
use Rattle.ecma_types.specs.declared.id.FieldId.{FieldId}
use Rattle.ecma_types.specs.declared.id.MethodId.{MethodId}
use Rattle.file_tables.specs.Metadata.{row_count}
use Rattle.file_tables.specs.File.{FilePart}
use Rattle.machine.specs.Data.{Id}
use Rattle.machine.specs.Throw.{on_some}
use Rattle.assemblies.specs.Binding.{resolve_field, resolve_method}
use Rattle.world_rows.specs.Tokens.{fields, methods, field_token, method_token, field_named, method_named}
use Rattle.world_rows.specs.World.{rows_alone, assemblies_of, size_of}

-- in code
abbrev pub field_resolved : List FilePart → ℕ → ℕ → Option Id
field_resolved files file token =
    on_some (slice_get files file) (λ f. resolve_field (size_of (rows_alone files)) (assemblies_of files) file (field_named f.metadata token))

abbrev pub method_resolved : List FilePart → ℕ → ℕ → Option Id
method_resolved files file token =
    on_some (slice_get files file) (λ f. resolve_method (size_of (rows_alone files)) (assemblies_of files) file (method_named f.metadata token))

-- by a table, and a row that counts from 1
abbrev pub field_of : List FilePart → ℕ → ℕ → ℕ → Option Id
field_of files file table row =
    on_some (slice_get files file) (λ f. resolve_field (size_of (rows_alone files)) (assemblies_of files) file (field_token f.metadata table row))

abbrev pub method_of : List FilePart → ℕ → ℕ → ℕ → Option Id
method_of files file table row =
    on_some (slice_get files file) (λ f. resolve_method (size_of (rows_alone files)) (assemblies_of files) file (method_token f.metadata table row))

-- rows count from 1 where the public calls name them
abbrev pub field_id : Id → FieldId
field_id c = record { file = c.file; row = c.row + 1 }

abbrev pub method_id : Id → MethodId
method_id c = record { file = c.file; row = c.row + 1 }

-- a row, where the world has it
abbrev pub field_checked : List FilePart → Id → Option FieldId
field_checked files c = on_some (slice_get files c.file) (λ p. if nat_lt c.row (row_count p.metadata fields) then Some (field_id c) else None)

abbrev pub method_checked : List FilePart → Id → Option MethodId
method_checked files c = on_some (slice_get files c.file) (λ p. if nat_lt c.row (row_count p.metadata methods) then Some (method_id c) else None)
