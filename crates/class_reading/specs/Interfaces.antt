-- The interfaces of each type of a file, by some rows.
use Rattle.std.specs.Prelude.{◌≡◌, ℕ, suc, ◌==◌, List, [], ◌∷◌, ◌++◌, map, slice_get, slice_set, slice_index, slice_index_or, Some}
use Rattle.std.specs.List.{filter, filter_map}
use Rattle.file_tables.specs.declared.schema.Coded.TheVariants.{TypeDefOrRef}
use Rattle.file_tables.specs.Metadata.{MetadataPart}
use Rattle.file_tables.specs.File.{FilePart}
use Rattle.machine.specs.Data.{Id}
use Rattle.assemblies.specs.Rows.{TypeToken}
use Rattle.assemblies.specs.Binding.{resolve}
use Rattle.world_rows.specs.Tokens.{coded_type}
use Rattle.world_rows.specs.World.{rows_alone, size_of}
use Rattle.member_keys.specs.declared.keys.ClassId.{ClassId}
use Rattle.member_keys.specs.Seen.{class_seen}

-- those of the type of a row from 0
abbrev pub named_by : MetadataPart → List (List ℕ) → ℕ → List TypeToken
named_by m rows n = map (λ row. coded_type m TypeDefOrRef (slice_index row 1)) (filter (λ row. slice_index row 0 == suc n) rows)

abbrev pub found_by : List FilePart → ℕ → MetadataPart → List (List ℕ) → ℕ → List Id
found_by files file m rows n = filter_map (resolve (size_of (rows_alone files)) (rows_alone files) file) (named_by m rows n)

-- each type has those that the rows name
abbrev pub HasInterfaces : List FilePart → ℕ → MetadataPart → List (List ℕ) → List (List ClassId) → Type 0
HasInterfaces files file m rows lists =
    (n : ℕ) (list : List ClassId) → slice_get lists n ≡ Some list → map class_seen list ≡ found_by files file m rows n

abbrev pub AreEmpty : List (List ClassId) → Type 0
AreEmpty lists = (n : ℕ) (list : List ClassId) → slice_get lists n ≡ Some list → list ≡ []

-- the lists with one more in that of a type
abbrev pub added_at : List (List ClassId) → ℕ → ClassId → List (List ClassId)
added_at lists n c = slice_set lists n (slice_index_or lists n [] ++ c ∷ [])
