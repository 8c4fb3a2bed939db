-- Rows of an image that rows of a file's table have, one behind the other. Each of these may name a range of a further table; the
-- ranges lie behind one another in the same order.
use Rattle.std.specs.Prelude.{ℕ, ◌+◌, List, [], ◌∷◌, ◌++◌}
use Rattle.msspot_write.specs.declared.parts.PartRow.{PartRow}

-- what the row of a number has, with the first row of its range, and how many rows the range has
module _ (parts : ℕ → ℕ → List PartRow) (range : ℕ → ℕ) where
  abbrev pub parts_from : ℕ → List ℕ → List PartRow
  parts_from first [] = []
  parts_from first (n ∷ ns) = parts first n ++ parts_from (first + range n) ns
