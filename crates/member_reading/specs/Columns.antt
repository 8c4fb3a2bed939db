-- The first rows with a number in a column.
use Rattle.std.specs.Prelude.{◌≡◌, ℕ, List, map, slice_get, slice_index}
use Rattle.std.specs.Ordering.{nat_cmp}
use Rattle.std.specs.BTreeMap.{BTreeMap, get}
use Rattle.file_tables.specs.Metadata.{MetadataPart, rows_of}
use Rattle.machine.specs.Throw.{on_some}
use Rattle.world_rows.specs.Rows.{row_with}

abbrev pub column_numbers : MetadataPart → ℕ → ℕ → List ℕ
column_numbers m table column = map (λ row. slice_index row column) (rows_of m table)

-- the row at the place of each number is the first one that has it
abbrev pub FindsRows : MetadataPart → ℕ → ℕ → BTreeMap ℕ ℕ → Type 0
FindsRows m table column places = (n : ℕ) → on_some (get nat_cmp places n) (slice_get (rows_of m table)) ≡ row_with column n (rows_of m table)
