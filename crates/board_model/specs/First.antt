-- The first of numbered things.
use Rattle.std.specs.Prelude.{ℕ, zero, suc, Option, Some, None}

abbrev pub or_else : {A : Type 0} → Option A → Option A → Option A
or_else None rest = rest
or_else (Some x) rest = Some x

-- the first thing that is there, of so many numbers from one on
abbrev pub first_from : {A : Type 0} → ℕ → ℕ → (ℕ → Option A) → Option A
first_from zero n thing = None
first_from (suc k) n thing = or_else (thing n) (first_from k (suc n) thing)
