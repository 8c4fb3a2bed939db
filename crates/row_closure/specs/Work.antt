-- What the work on rules has done.
use Rattle.std.specs.Prelude.{◌≡◌, ℕ, ◌+◌, ◌*◌, ◌<◌, ◌≤◌, Bool, true, not, List, Some, length, count_by, slice_get}
use Rattle.row_closure.specs.declared.rule.Rule.{Rule}
use Rattle.row_closure.specs.Closure.{holds, IsClosed, IsWithin}

-- a list has exactly the rows that are kept
pub record Lists (kept : List Bool) (met : List ℕ) : Type 0 where
  pub place : (n : ℕ) → holds kept n ≡ true → (i : ℕ) × (slice_get met i ≡ Some n)
  pub held : (i n : ℕ) → slice_get met i ≡ Some n → holds kept n ≡ true

-- every row that is kept makes this less, and so does every one that is done
abbrev pub to_do : List Bool → List ℕ → ℕ
to_do kept met = 2 * count_by not kept + length met

-- more is kept, by rules alone, and stands behind what was met before
pub record Grows (rules : List Rule) (old : List Bool) (met : List ℕ) (new : List Bool) (now : List ℕ) : Type 0 where
  pub size : length new ≡ length old
  pub stays : IsWithin (holds old) (holds new)
  pub within : (s : ℕ → Bool) → IsClosed rules s → IsWithin (holds old) s → IsWithin (holds new) s
  pub lists : Lists old met → Lists new now
  pub front : (i n : ℕ) → slice_get met i ≡ Some n → slice_get now i ≡ Some n
  pub less : to_do new now ≤ to_do old met

-- the row at one of the first places
abbrev pub IsDone : List ℕ → ℕ → ℕ → Type 0
IsDone met done n = (i : ℕ) × (i < done) × (slice_get met i ≡ Some n)

-- what the rules give of rows that are done is kept
abbrev pub IsSettled : List Rule → List Bool → List ℕ → ℕ → Type 0
IsSettled rules kept met done = (k : ℕ) (r : Rule) → slice_get rules k ≡ Some r → IsDone met done r.first → IsDone met done r.second → holds kept r.then ≡ true
