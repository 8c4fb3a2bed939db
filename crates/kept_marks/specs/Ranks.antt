-- How many rows are kept of those before each.
use Rattle.std.specs.Prelude.{◌≡◌, ℕ, ◌+◌, Bool, List, Some, length, slice_get}
use Rattle.kept_rows.specs.Select.{below}
use Rattle.row_closure.specs.Closure.{holds}

-- of the first n rows
abbrev pub rank : List Bool → ℕ → ℕ
rank marks n = below (holds marks) n

pub record AreRanks (marks : List Bool) (ranks : List ℕ) : Type 0 where
  pub rows : length ranks ≡ length marks + 1
  pub each : (n r : ℕ) → slice_get ranks n ≡ Some r → r ≡ rank marks n
