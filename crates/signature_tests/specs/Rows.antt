-- What is told of a row.
use Rattle.std.specs.Prelude.{◌≡◌, ℕ, List, Option, Some, slice_get}
use Rattle.file_tables.specs.Metadata.{MetadataPart}
use Rattle.file_tables.specs.File.{FilePart}
use Rattle.profile_subject.specs.Faults.{row_at}

-- of a row that counts from 0, where the file and the row are there: the answer of a test of the file's rows and heaps
abbrev pub TellsRow : List FilePart → ℕ → ℕ → ℕ → (MetadataPart → List ℕ → Option ℕ) → Option ℕ → Type 0
TellsRow files file table n wrong result = (x : FilePart) (row : List ℕ) → slice_get files file ≡ Some x → row_at files file table n ≡ Some row → result ≡ wrong x.metadata row
