-- The rows that are kept, and their numbers among the kept ones of their tables.
use Rattle.std.specs.Prelude.{ℕ, ◌+◌, nat_lt, Bool, false, if◌then◌else◌, List, Option, Some, None, slice_get}
use Rattle.std.specs.Option.{option_map_or}
use Rattle.kept_rows.specs.Select.{below}
use Rattle.assemblies.specs.Rows.{Assembly}
use Rattle.row_closure.specs.Closure.{holds}
use Rattle.row_numbers.specs.declared.table.Table.{Table}
use Rattle.row_numbers.specs.declared.table.PerTable.{PerTable}
use Rattle.row_numbers.specs.declared.table.TableRange.{TableRange}
use Rattle.row_numbers.specs.Tables.{table_length, found_number, range_by}

-- the counts of tables, and a mark for each row
pub record Marked : Type 0 where
  pub counts : List PerTable
  pub marks : List Bool

module _ (ps : List Assembly) (marks : List Bool) (t : Table) (f : ℕ) where
  -- whether a row is there and is kept
  abbrev pub is_kept : ℕ → Bool
  is_kept n = option_map_or (λ k. holds marks k) (found_number ps t f n) false

  -- the number of a kept row among the kept ones
  abbrev pub kept_row : ℕ → Option ℕ
  kept_row n = if is_kept n then Some (below is_kept n) else None

  abbrev pub kept_count : ℕ
  kept_count = below is_kept (option_map_or (λ p. table_length p t) (slice_get ps f) 0)

-- ---- from the counts alone

-- a row of a table whose rows have these numbers is there and is kept
abbrev pub marked_in : List Bool → TableRange → ℕ → Bool
marked_in marks r n = if nat_lt n r.count then holds marks (r.first + n) else false

abbrev pub marked : Marked → Table → ℕ → ℕ → Bool
marked k t f n = marked_in k.marks (range_by k.counts t f) n
