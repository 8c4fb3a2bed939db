-- How many rows the files behind the base library have.
use Rattle.std.specs.Prelude.{ℕ, List, drop, sum_by}
use Rattle.file_tables.specs.Metadata.{row_count}
use Rattle.file_tables.specs.File.{FilePart}

-- of a table, in all files but the first two
abbrev pub rows_behind : List FilePart → ℕ → ℕ
rows_behind files table = sum_by (λ (x : FilePart). row_count x.metadata table) (drop 2 files)
