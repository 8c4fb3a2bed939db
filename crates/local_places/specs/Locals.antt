-- What signatures of locals mean.
use Rattle.std.specs.Prelude.{ℕ, List, Option}
use Rattle.std.specs.List.{filter_map}
use Rattle.std.specs.Option.{option_map}
use Rattle.cil_sig.specs.declared.sig.SigType.{SigType as Spelling}
use Rattle.file_tables.specs.File.{FilePart}
use Rattle.ecma_types.specs.declared.stack.PlaceType.{PlaceType}
use Rattle.classes.specs.Classes.{SigType}
use Rattle.classes.specs.Queries.{type_of}
use Rattle.assemblies.specs.Binding.{expanded}
use Rattle.world_rows.specs.Lines.{locals_of}
use Rattle.world_rows.specs.Signatures.{locals_signature}
use Rattle.world_rows.specs.World.{assemblies_of, ecma_sources, rows_alone, size_of}
use Rattle.member_reading.specs.Meant.{type_meant}
use Rattle.method_facts.specs.Places.{type_to}

-- a type of a signature as that of a place with rows from 1
abbrev pub local_meant : List FilePart → ℕ → Spelling → Option PlaceType
local_meant files file s = option_map (λ t. type_to (type_of (ecma_sources files).classes t)) (type_meant files file s)

-- the types that a blob says, without those that name nothing
abbrev pub blob_meant : List FilePart → ℕ → FilePart → List ℕ → List SigType
blob_meant files file x blob = filter_map (expanded (size_of (rows_alone files)) (assemblies_of files) file) (locals_signature x.metadata blob)

-- and those of the signature that a token of a file names
abbrev pub locals_meant : List FilePart → ℕ → FilePart → ℕ → List SigType
locals_meant files file x token = filter_map (expanded (size_of (rows_alone files)) (assemblies_of files) file) (locals_of x.metadata token)
