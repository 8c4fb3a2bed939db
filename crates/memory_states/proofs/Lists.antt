-- Items of lists that are written.
use Rattle.std.proofs.Common.{◌≡◌, ◌≢◌, ℕ, zero, suc, ◌<◌, List, [], ◌∷◌, length, Some, refl, ap, arith}
use Rattle.std.specs.Prelude.{slice_get, slice_set}

pub set_here : {A : Type 0} (xs : List A) (i : ℕ) (v : A) → i < length xs → slice_get (slice_set xs i v) i ≡ Some v
set_here [] i v l = absurd (omega (arith, l))
set_here (x ∷ xs) zero v l = refl
set_here (x ∷ xs) (suc i) v l = set_here xs i v (omega (arith, l))

pub set_elsewhere : {A : Type 0} (xs : List A) (i j : ℕ) (v : A) → j ≢ i → slice_get (slice_set xs i v) j ≡ slice_get xs j
set_elsewhere [] i j v n = refl
set_elsewhere (x ∷ xs) zero zero v n = absurd (n refl)
set_elsewhere (x ∷ xs) zero (suc j) v n = refl
set_elsewhere (x ∷ xs) (suc i) zero v n = refl
set_elsewhere (x ∷ xs) (suc i) (suc j) v n = set_elsewhere xs i j v (λ e. n (ap suc e))
