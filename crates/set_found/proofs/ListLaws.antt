-- Lists of numbered things, and the first of them that is there.
use Rattle.std.proofs.Common.{◌≡◌, ◌∙◌, ℕ, zero, suc, ◌+◌, List, [], ◌∷◌, map, length, Option, Some, None, refl, sym, ap, arith}
use Rattle.std.specs.Prelude.{slice_get}
use Rattle.std.specs.List.{zip}
use Rattle.std.specs.Option.{option_or}
use Rattle.classes.specs.Queries.{or_else, first_some}
use Rattle.assemblies.specs.Binding.{numbered}

pub as_many : {A B : Type 0} (make : ℕ → A → B) (n : ℕ) (xs : List A) → length (numbered make n xs) ≡ length xs
as_many make n [] = refl
as_many make n (x ∷ xs) = ap suc (as_many make (suc n) xs)

-- a list of pairs, by its second and by its places
pub seconds : {A B : Type 0} (xs : List A) (ys : List B) → length ys ≡ length xs → map (λ (z : A × B). z.1) (zip xs ys) ≡ ys
seconds [] [] e = refl
seconds [] (y ∷ ys) e = absurd (omega (arith, e))
seconds (x ∷ xs) [] e = absurd (omega (arith, e))
seconds (x ∷ xs) (y ∷ ys) e = ap (λ zs. y ∷ zs) (seconds xs ys (omega (arith, e)))

pub pair_at : {A B : Type 0} (xs : List A) (ys : List B) (k : ℕ) (z : A × B) → slice_get (zip xs ys) k ≡ Some z → (slice_get xs k ≡ Some z.0) × (slice_get ys k ≡ Some z.1)
pair_at [] ys k z e = absurd (cc e)
pair_at (x ∷ xs) [] k z e = absurd (cc e)
pair_at {A} {B} (x ∷ xs) (y ∷ ys) zero z e =
    let same : (x, y) ≡ z = cc e in
    (ap (λ (w : A × B). Some w.0) same, ap (λ (w : A × B). Some w.1) same)
pair_at (x ∷ xs) (y ∷ ys) (suc k) z e = pair_at xs ys k z e

pub few_pairs : {A B : Type 0} (xs : List A) (ys : List B) → length ys ≡ length xs → length (zip xs ys) ≡ length xs
few_pairs [] ys e = refl
few_pairs (x ∷ xs) [] e = absurd (omega (arith, e))
few_pairs (x ∷ xs) (y ∷ ys) e = ap suc (few_pairs xs ys (omega (arith, e)))

-- where the first is none, so is each
pub none_first : {A : Type 0} (a b : Option A) → or_else a b ≡ None → (a ≡ None) × (b ≡ None)
none_first None b e = (refl, e)
none_first (Some x) b e = absurd (cc e)

pub none_or : {A : Type 0} (a b : Option A) → option_or a b ≡ None → (a ≡ None) × (b ≡ None)
none_or None b e = (refl, e)
none_or (Some x) b e = absurd (cc e)

pub each_none : {A B : Type 0} (make : ℕ → A → Option B) (n : ℕ) (xs : List A) → first_some (λ o. o) (numbered make n xs) ≡ None → (k : ℕ) (x : A) → slice_get xs k ≡ Some x → make (n + k) x ≡ None
each_none make n [] e k x at = absurd (cc at)
each_none make n (y ∷ ys) e zero x at =
    let h = none_first (make n y) (first_some (λ o. o) (numbered make (suc n) ys)) e in
    let same : y ≡ x = cc at in
    let here : n + 0 ≡ n = omega arith in
    ap (λ m. make m x) here ∙ ap (make n) (sym same) ∙ h.0
each_none make n (y ∷ ys) e (suc k) x at =
    let h = none_first (make n y) (first_some (λ o. o) (numbered make (suc n) ys)) e in
    let there : n + suc k ≡ suc n + k = omega arith in
    ap (λ m. make m x) there ∙ each_none make (suc n) ys h.1 k x at
