-- What the methods of a file have in a list of the image, one behind the other. What a method has may name a range of a further list;
-- these ranges lie behind one another in the same order.
use Rattle.std.specs.Prelude.{ℕ, zero, suc, ◌+◌, Bool, if◌then◌else◌, List, [], ◌++◌}

-- by its number and the first row of its range, if it is kept; and how many rows the range has
module _ {A : Type 0} (keep : ℕ → Bool) (parts : ℕ → ℕ → List A) (range : ℕ → ℕ) where
  -- so many methods from a number on
  abbrev pub parts_from : ℕ → ℕ → ℕ → List A
  parts_from zero n first = []
  parts_from (suc left) n first = if keep n then parts first n ++ parts_from left (n + 1) (first + range n) else parts_from left (n + 1) first
