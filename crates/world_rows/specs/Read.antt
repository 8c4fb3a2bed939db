-- What is asked of a world, so that its classes have what reading gives.
use Rattle.std.specs.Prelude.{◌≡◌, ℕ, ◌≤◌, true, List, Some, slice_get}
use Rattle.file_tables.specs.Metadata.{row_count, is_row}
use Rattle.file_tables.specs.File.{FilePart}
use Rattle.world_rows.specs.Tokens.{type_defs}

-- rule 12 of the rows of types
abbrev pub TypesStand : List FilePart → Type 0
TypesStand files = (f : ℕ) (x : FilePart) → slice_get files f ≡ Some x → (row : ℕ) → row ≤ row_count x.metadata type_defs → is_row x.metadata type_defs row ≡ true
