-- What the builder counts beside the rows.
use Rattle.std.specs.Prelude.{◌≡◌, ℕ, ◌+◌, ◌<◌, ◌≤◌, min, List, slice_index}
use Rattle.cil_layout.specs.declared.rows.TheConstants.{MOST_WEIGHT, MOST_ROWS}
use Rattle.cil_layout.specs.Asked.{Asked, rows_of, weight_of}
use Rattle.cil_layout.specs.Text.{text_end}

-- The weight stops behind the largest one that is allowed.
pub record IsCounted (r : Asked) (counts : List ℕ) (weight text_place : ℕ) : Type 0 where
  pub counts_are : (table : ℕ) → table < 64 → slice_index counts table ≡ rows_of r table
  pub within : (table : ℕ) → table < 64 → rows_of r table ≤ MOST_ROWS
  pub weight_is : weight ≡ min (weight_of r) (MOST_WEIGHT + 1)
  pub text_is : text_place ≡ text_end r.rows
  pub text_fits : text_place ≤ MOST_WEIGHT
