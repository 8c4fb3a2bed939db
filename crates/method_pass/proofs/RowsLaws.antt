-- Rows given one after the other.
use Rattle.std.proofs.Common.{◌≡◌, ℕ, zero, suc, ◌+◌, ◌<◌, List, [], ◌∷◌, ◌++◌, map, take, drop, length, refl, sym, ap, ◌∙◌, arith, add-one, get_or}
use Rattle.std.specs.Prelude.{slice_set}

module _ {A : Type 0} (f : A → A) (d : A) where
  set_next : (xs : List A) (i : ℕ) → i < length xs → slice_set (map f (take i xs) ++ drop i xs) i (f (get_or (map f (take i xs) ++ drop i xs) i d)) ≡ map f (take (suc i) xs) ++ drop (suc i) xs
  set_next [] i within = absurd (omega (arith, within))
  set_next (x ∷ xs) zero within = refl
  set_next (x ∷ xs) (suc i) within = let less : i < length xs = omega (arith, within) in ap (λ ys. f x ∷ ys) (set_next xs i less)

  pub given_next : (xs ys : List A) (i : ℕ) (y : A) → ys ≡ map f (take i xs) ++ drop i xs → i < length xs → y ≡ f (get_or ys i d) → slice_set ys i y ≡ map f (take (i + 1) xs) ++ drop (i + 1) xs
  given_next xs ys i y kept within is =
      ap (slice_set ys i) is
      ∙ (ap (λ zs. slice_set zs i (f (get_or zs i d))) kept
      ∙ (set_next xs i within ∙ ap (λ k. map f (take k xs) ++ drop k xs) (sym (add-one i))))
