-- Which elements of a list stand before a place.
use Rattle.std.proofs.Common.{◌≡◌, ◌∙◌, ◌⊎◌, inl, inr, ℕ, zero, suc, ◌<◌, ◌≤◌, Bool, cond, true, false, List, [], ◌∷◌, take, Option, Some, None, refl, sym, ap, arith}
use Rattle.std.specs.Prelude.{◌||◌, nat_lt}
use Rattle.std.specs.List.{list_any, position}
use Rattle.std.specs.Option.{option_map}
use Rattle.std.proofs.lemmas.Bool.{cases_lt, lt-ltb, le-ltb}
use Rattle.kept_rows.proofs.SelectLaws.{position_step}
use Rattle.type_tests.specs.Columns.{precedes}

lt_next : (i n : ℕ) → nat_lt (suc i) (suc n) ≡ nat_lt i n
lt_next i n = go (cases_lt i n)
  where
    go : (i < n) ⊎ (n ≤ i) → nat_lt (suc i) (suc n) ≡ nat_lt i n
    go (inl low) = lt-ltb (suc i) (suc n) (omega (arith, low)) ∙ sym (lt-ltb i n low)
    go (inr high) = le-ltb (suc i) (suc n) (omega (arith, high)) ∙ sym (le-ltb i n high)

pub precedes_next : (n : ℕ) (o : Option ℕ) → precedes (suc n) (option_map suc o) ≡ precedes n o
precedes_next n None = refl
precedes_next n (Some i) = lt_next i n

precedes_none : (o : Option ℕ) → precedes 0 o ≡ false
precedes_none None = refl
precedes_none (Some i) = le-ltb i 0 (omega arith)

-- one of the first elements passes where the first that passes is one of them
pub any_before : {A : Type 0} (test : A → Bool) (xs : List A) (n : ℕ) → list_any test (take n xs) ≡ precedes n (position test xs)
any_before test xs zero = sym (precedes_none (position test xs))
any_before test [] (suc n) = refl
any_before test (x ∷ xs) (suc n) = go (test x) (any_before test xs n) ∙ sym (ap (precedes (suc n)) (position_step test x xs))
  where
    go : (b : Bool) → list_any test (take n xs) ≡ precedes n (position test xs) → (b || list_any test (take n xs)) ≡ precedes (suc n) (cond b (Some 0) (option_map suc (position test xs)))
    go true ih = sym (lt-ltb 0 (suc n) (omega arith))
    go false ih = ih ∙ sym (precedes_next n (position test xs))
