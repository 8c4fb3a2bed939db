-- What tokens of code name.
use Rattle.std.specs.Prelude.{ℕ, List, Option, slice_get}
use Rattle.file_tables.specs.Metadata.{rows_of}
use Rattle.file_tables.specs.File.{FilePart}
use Rattle.machine.specs.Throw.{on_some}
use Rattle.classes.specs.Classes.{SigType}
use Rattle.assemblies.specs.Binding.{expanded, operand_type}
use Rattle.world_rows.specs.Tokens.{type_specs, type_named}
use Rattle.world_rows.specs.Signatures.{spec_signature}
use Rattle.world_rows.specs.World.{assemblies_of}
use Rattle.member_reading.specs.Meant.{scopes}

-- the type that a token names: a class, or an array that a specification spells
abbrev pub type_meant : List FilePart → ℕ → ℕ → Option SigType
type_meant files file token = on_some (slice_get files file) (λ f. operand_type (scopes files) (assemblies_of files) file (type_named f.metadata token))

-- what the blob of a specification says
abbrev pub spec_meant : List FilePart → ℕ → List ℕ → Option SigType
spec_meant files file blob = on_some (slice_get files file) (λ f. expanded (scopes files) (assemblies_of files) file (spec_signature f.metadata blob))

-- a row of specifications, from 0
abbrev pub spec_row : List FilePart → ℕ → ℕ → Option (List ℕ)
spec_row files file n = on_some (slice_get files file) (λ f. slice_get (rows_of f.metadata type_specs) n)
