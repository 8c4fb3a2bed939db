-- Where the instructions of a file's code start in the shortened code.
use Rattle.std.specs.Prelude.{◌≡◌, ℕ, ◌+◌, ◌-◌, ◌<◌, ◌≤◌, nat_eq, nat_lt, if◌then◌else◌, List, [], ◌∷◌, length, Option, Some, None, slice_get}
use Rattle.std.specs.Option.{unwrap_or}
use Rattle.machine_rename.specs.Places.{Piece}
use Rattle.short_code.specs.Short.{to_short, IsBound}
use Rattle.code_shrink.specs.declared.starts.Start.{Start}

-- shortened code, and where instructions start
pub record Shortened : Type 0 where
  pub code : List ℕ
  pub starts : List Start

-- the start in the shortened code of an instruction that starts at a place
abbrev pub short_in : List Start → ℕ → Option ℕ
short_in [] at = None
short_in (s ∷ ss) at = if nat_eq s.long at then Some s.short else short_in ss at

-- the same, and 0 where no instruction starts
abbrev pub place_in : List Start → ℕ → ℕ
place_in starts at = unwrap_or (short_in starts at) 0

-- the starts of these instructions and the end behind them, the first of them at two places
abbrev pub starts_from : {A : Type 0} → ℕ → ℕ → List (Piece A) → List Start
starts_from long short [] = record { long = long; short = short } ∷ []
starts_from long short (x ∷ xs) = record { long = long; short = short } ∷ starts_from (long + x.long) (short + x.short) xs

-- where a place of the file's code comes to lie: one inside an instruction at its start, and one behind the end as far behind it
abbrev pub way : List Start → ℕ → ℕ
way [] at = at
way (s ∷ []) at = s.short + (at - s.long)
way (s ∷ t ∷ ss) at = if nat_lt at t.long then s.short else way (t ∷ ss) at

-- each start is behind those before it
abbrev pub Rise : List Start → Type 0
Rise starts = (i j : ℕ) (a b : Start) → i < j → slice_get starts i ≡ Some a → slice_get starts j ≡ Some b → a.long < b.long

-- starts that tell a way
pub record TellWay (starts : List Start) : Type 0 where
  pub rise : Rise starts
  pub some : 0 < length starts
  pub shorter : (k : ℕ) (s : Start) → slice_get starts k ≡ Some s → s.short ≤ s.long

-- they are those of the instructions and of the end, and no others
pub record Pairs {A : Type 0} (xs : List (Piece A)) (starts : List Start) : Type 0 where
  pub starts_there : (at : ℕ) → IsBound xs at → short_in starts at ≡ Some (to_short xs at)
  pub nowhere_else : (at : ℕ) → (IsBound xs at → ⊥) → short_in starts at ≡ None
