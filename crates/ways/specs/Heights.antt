-- Ways in a graph, and their lengths.
use Rattle.std.specs.Prelude.{◌≡◌, ℕ, zero, suc, ◌<◌, ◌≤◌, Bool, true, false, List, Option, Some, None, slice_get}
use Rattle.std.specs.List.{list_all}

-- whether each way on from a node ends within so many nodes: none goes in a circle
abbrev pub ends : ℕ → (ℕ → List ℕ) → ℕ → Bool
ends zero next a = false
ends (suc n) next a = list_all (ends n next) (next a)

-- a test that holds from a number on
abbrev pub HoldsFrom : ℕ → (ℕ → Bool) → Type 0
HoldsFrom h test = (n : ℕ) → (h ≤ n → test n ≡ true) × (n < h → test n ≡ false)

-- the longest way has so many nodes
abbrev pub HasHeight : (ℕ → List ℕ) → ℕ → ℕ → Type 0
HasHeight next a h = HoldsFrom h (λ n. ends n next a)

-- some way doesn't end
abbrev pub IsEndless : (ℕ → List ℕ) → ℕ → Type 0
IsEndless next a = (n : ℕ) → ends n next a ≡ false

abbrev pub HeightFits : (ℕ → List ℕ) → ℕ → Option ℕ → Type 0
HeightFits next a (Some h) = HasHeight next a h
HeightFits next a None = IsEndless next a

abbrev pub AreHeights : (ℕ → List ℕ) → List (Option ℕ) → Type 0
AreHeights next heights = (a : ℕ) (h : Option ℕ) → slice_get heights a ≡ Some h → HeightFits next a h
