-- Which keys of a list stand there already.
use Rattle.std.specs.Prelude.{◌≡◌, ℕ, Bool, true, List, Option, None, Some, take, slice_get, slice_set}
use Rattle.std.specs.List.{list_any}
use Rattle.std.specs.Ordering.{eq_by_cmp}
use Rattle.std.specs.declared.cmp.Ordering.{Ordering}

-- for each key whether one before it is equal to it
abbrev pub AreRepeats : {K : Type 0} → (K → K → Ordering) → List K → List Bool → Type 0
AreRepeats {K} cmp keys repeats = (n : ℕ) (key : K) → slice_get keys n ≡ Some key → slice_get repeats n ≡ Some (list_any (eq_by_cmp cmp key) (take n keys))

-- bits with true at a place, if there is one
abbrev pub marked : Option ℕ → List Bool → List Bool
marked None bits = bits
marked (Some at) bits = slice_set bits at true
