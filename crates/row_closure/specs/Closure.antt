-- Sets of rows that are closed under rules, and the least one.
use Rattle.std.specs.Prelude.{◌≡◌, ℕ, ◌<◌, Bool, true, false, List, Some, slice_get, slice_index_or}
use Rattle.row_closure.specs.declared.rule.Rule.{Rule}

-- which rows a list of marks keeps
abbrev pub holds : List Bool → ℕ → Bool
holds kept n = slice_index_or kept n false

-- the rules name rows below a count
abbrev pub AreWithin : ℕ → List Rule → Type 0
AreWithin count rules = (k : ℕ) (r : Rule) → slice_get rules k ≡ Some r → (r.first < count) × (r.second < count) × (r.then < count)

-- a set has what each rule gives of whose premises it has both
abbrev pub IsClosed : List Rule → (ℕ → Bool) → Type 0
IsClosed rules s = (k : ℕ) (r : Rule) → slice_get rules k ≡ Some r → s r.first ≡ true → s r.second ≡ true → s r.then ≡ true

abbrev pub IsWithin : (ℕ → Bool) → (ℕ → Bool) → Type 0
IsWithin s t = (n : ℕ) → s n ≡ true → t n ≡ true

-- the least closed set that has a set's rows
pub record IsClosure (rules : List Rule) (of closure : ℕ → Bool) : Type 0 where
  pub has : IsWithin of closure
  pub closed : IsClosed rules closure
  pub least : (other : ℕ → Bool) → IsWithin of other → IsClosed rules other → IsWithin closure other
