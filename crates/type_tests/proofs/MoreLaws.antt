-- One element more of a list that is read off another one.
use Rattle.std.proofs.Common.{◌≡◌, ◌∙◌, ℕ, zero, suc, ◌+◌, List, [], ◌∷◌, ◌++◌, map, take, Some, refl, sym, ap, add-one}
use Rattle.std.specs.Prelude.{slice_get}
use Rattle.std.proofs.lemmas.List.{map-append}

taken : {A : Type 0} (xs : List A) (n : ℕ) (x : A) → slice_get xs n ≡ Some x → take n xs ++ x ∷ [] ≡ take (suc n) xs
taken [] n x e = cc e
taken (y ∷ ys) zero x e = let same : y ≡ x = cc e in ap (λ z. z ∷ []) (sym same)
taken (y ∷ ys) (suc n) x e = ap (λ zs. y ∷ zs) (taken ys n x e)

pub map_more : {A B C : Type 0} (f : A → C) (g : B → C) (xs : List A) (ys : List B) (n : ℕ) (x : A) (y : B) → slice_get ys n ≡ Some y → f x ≡ g y → map f xs ≡ map g (take n ys) → map f (xs ++ x ∷ []) ≡ map g (take (n + 1) ys)
map_more f g xs ys n x y at same so_far =
    map-append f xs (x ∷ [])
    ∙ ap (λ zs. zs ++ f x ∷ []) so_far
    ∙ ap (λ z. map g (take n ys) ++ z ∷ []) same
    ∙ sym (map-append g (take n ys) (y ∷ []))
    ∙ ap (map g) (taken ys n y at)
    ∙ ap (λ k. map g (take k ys)) (sym (add-one n))
