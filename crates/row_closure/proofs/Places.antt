-- Elements of a list that is written to, or to which one is added.
use Rattle.std.proofs.Common.{◌≡◌, ◌⊎◌, inl, inr, ℕ, zero, suc, ◌<◌, Bool, true, List, [], ◌∷◌, ◌++◌, length, Some, refl, ap, arith}
use Rattle.std.specs.Prelude.{slice_get, slice_set}
use Rattle.row_closure.specs.Closure.{holds}

pub get_push : {A : Type 0} (xs : List A) (y : A) (k : ℕ) (z : A) → slice_get (xs ++ y ∷ []) k ≡ Some z → (slice_get xs k ≡ Some z) ⊎ ((k ≡ length xs) × (z ≡ y))
get_push [] y zero z e = inr (refl, cc e)
get_push [] y (suc k) z e = cc e
get_push (x ∷ xs) y zero z e = inl e
get_push (x ∷ xs) y (suc k) z e = go (get_push xs y k z e)
  where
    go : (slice_get xs k ≡ Some z) ⊎ ((k ≡ length xs) × (z ≡ y)) → (slice_get xs k ≡ Some z) ⊎ ((suc k ≡ suc (length xs)) × (z ≡ y))
    go (inl h) = inl h
    go (inr h) = inr (ap suc h.0, h.1)

pub get_front : {A : Type 0} (xs ys : List A) (k : ℕ) (z : A) → slice_get xs k ≡ Some z → slice_get (xs ++ ys) k ≡ Some z
get_front [] ys k z e = cc e
get_front (x ∷ xs) ys zero z e = e
get_front (x ∷ xs) ys (suc k) z e = get_front xs ys k z e

pub get_end : {A : Type 0} (xs : List A) (y : A) → slice_get (xs ++ y ∷ []) (length xs) ≡ Some y
get_end [] y = refl
get_end (x ∷ xs) y = get_end xs y

pub get_set : {A : Type 0} (xs : List A) (i : ℕ) (y : A) (k : ℕ) (z : A) → slice_get (slice_set xs i y) k ≡ Some z → ((k ≡ i) × (z ≡ y)) ⊎ ((k ≡ i → ⊥) × (slice_get xs k ≡ Some z))
get_set [] i y k z e = cc e
get_set (x ∷ xs) zero y zero z e = inl (refl, cc e)
get_set (x ∷ xs) zero y (suc k) z e = inr ((λ h. cc h), e)
get_set (x ∷ xs) (suc i) y zero z e = inr ((λ h. cc h), e)
get_set (x ∷ xs) (suc i) y (suc k) z e = go (get_set xs i y k z e)
  where
    go : ((k ≡ i) × (z ≡ y)) ⊎ ((k ≡ i → ⊥) × (slice_get xs k ≡ Some z)) → ((suc k ≡ suc i) × (z ≡ y)) ⊎ ((suc k ≡ suc i → ⊥) × (slice_get xs k ≡ Some z))
    go (inl h) = inl (ap suc h.0, h.1)
    go (inr h) = inr ((λ e. h.0 (cc e)), h.1)

-- a row that is kept besides others
pub set_holds : (kept : List Bool) (row n : ℕ) → holds kept n ≡ true → holds (slice_set kept row true) n ≡ true
set_holds [] row n e = e
set_holds (b ∷ kept) zero zero e = refl
set_holds (b ∷ kept) zero (suc n) e = e
set_holds (b ∷ kept) (suc row) zero e = e
set_holds (b ∷ kept) (suc row) (suc n) e = set_holds kept row n e

pub set_held : (kept : List Bool) (row : ℕ) → row < length kept → holds (slice_set kept row true) row ≡ true
set_held [] row h = absurd (omega (arith, h))
set_held (b ∷ kept) zero h = refl
set_held (b ∷ kept) (suc row) h = set_held kept row (omega (arith, h))

pub set_back : (kept : List Bool) (row n : ℕ) → holds (slice_set kept row true) n ≡ true → (n ≡ row) ⊎ (holds kept n ≡ true)
set_back [] row n e = inr e
set_back (b ∷ kept) zero zero e = inl refl
set_back (b ∷ kept) zero (suc n) e = inr e
set_back (b ∷ kept) (suc row) zero e = inr e
set_back (b ∷ kept) (suc row) (suc n) e = go (set_back kept row n e)
  where
    go : (n ≡ row) ⊎ (holds kept n ≡ true) → (suc n ≡ suc row) ⊎ (holds kept n ≡ true)
    go (inl h) = inl (ap suc h)
    go (inr h) = inr h

-- a row that is kept is there
pub held_within : (kept : List Bool) (n : ℕ) → holds kept n ≡ true → n < length kept
held_within [] n e = cc e
held_within (b ∷ kept) zero e = omega arith
held_within (b ∷ kept) (suc n) e = let less = held_within kept n e in omega (arith, less)
