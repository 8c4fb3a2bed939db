-- The first entry of a pool.
use Rattle.std.specs.Prelude.{ℕ, ◌+◌, ◌*◌, nat_le, if◌then◌else◌, List, [], ◌∷◌, length, take, Option, Some, None}

-- its text, where all of it is there
unfoldable pub first_text : List ℕ → Option (List ℕ)
first_text [] = None
first_text (low ∷ []) = None
first_text (low ∷ high ∷ rest) = if nat_le (low + 256 * high) (length rest) then Some (take (low + 256 * high) rest) else None
