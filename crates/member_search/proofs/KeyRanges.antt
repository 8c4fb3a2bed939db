-- Keys of members that stand behind one another, a member after the other.
use Rattle.std.proofs.Common.{◌≡◌, ℕ, zero, suc, ◌+◌, ◌-◌, ◌<◌, ◌≤◌, ◌⊎◌, inl, inr, List, [], ◌∷◌, ◌++◌, length, map, take, drop, min, Some, refl, sym, ap, ◌∙◌, arith, add-one, length-drop}
use Rattle.std.specs.Prelude.{slice_get}
use Rattle.std.proofs.lemmas.Bool.{cases_lt}
use Rattle.std.proofs.lemmas.List.{take_all, length-take, length-map}
use Rattle.assemblies.specs.Binding.{range}

pub drop_there : {A : Type 0} (xs : List A) (n : ℕ) (x : A) → slice_get xs n ≡ Some x → drop n xs ≡ x ∷ drop (suc n) xs
drop_there [] n x e = cc e
drop_there (y ∷ ys) zero x e = let same : y ≡ x = cc e in ap (λ z. z ∷ ys) same
drop_there (y ∷ ys) (suc n) x e = drop_there ys n x e

-- what is still to come, up to an end
pub range_begins : {A : Type 0} (first count end : ℕ) (xs : List A) → end ≡ min (first + count) (length xs) → range first count xs ≡ take (end - first) (drop first xs)
range_begins {A} first count end xs e = go (cases_lt (first + count) (length xs))
  where
    go : (first + count < length xs) ⊎ (length xs ≤ first + count) → range first count xs ≡ take (end - first) (drop first xs)
    go (inl below) = let same : count ≡ end - first = omega arith in ap (λ k. take k (drop first xs)) same
    go (inr past) =
        let all : length (drop first xs) ≤ count = omega (arith, length-drop first xs) in
        let too : length (drop first xs) ≤ end - first = omega (arith, length-drop first xs) in
        take_all count (drop first xs) all ∙ sym (take_all (end - first) (drop first xs) too)

pub range_step : {A B : Type 0} (f : A → B) (done : List A) (key : A) (n end : ℕ) (xs : List B) → n < end → slice_get xs n ≡ Some (f key) → map f done ++ take (end - n) (drop n xs) ≡ map f (done ++ key ∷ []) ++ take (end - (n + 1)) (drop (n + 1) xs)
range_step {A} {B} f done key n end xs h e =
    let more : end - n ≡ suc (end - (n + 1)) = omega arith in
    ap (λ k. map f done ++ take k (drop n xs)) more
    ∙ ap (λ ys. map f done ++ take (suc (end - (n + 1))) ys) (drop_there xs n (f key) e)
    ∙ ap (λ k. map f done ++ f key ∷ take (end - (n + 1)) (drop k xs)) (sym (add-one n))
    ∙ go done (take (end - (n + 1)) (drop (n + 1) xs))
  where
    go : (keys : List A) (rest : List B) → map f keys ++ f key ∷ rest ≡ map f (keys ++ key ∷ []) ++ rest
    go [] rest = refl
    go (k ∷ keys) rest = ap (λ ys. f k ∷ ys) (go keys rest)

pub range_ends : {A B : Type 0} (f : A → B) (done : List A) (n end : ℕ) (xs : List B) → end ≤ n → map f done ++ take (end - n) (drop n xs) ≡ map f done
range_ends {A} {B} f done n end xs h = let none : end - n ≡ 0 = omega arith in ap (λ k. map f done ++ take k (drop n xs)) none ∙ nothing (map f done)
  where
    nothing : (ys : List B) → ys ++ [] ≡ ys
    nothing [] = refl
    nothing (y ∷ ys) = ap (λ zs. y ∷ zs) (nothing ys)

pub few_keys : {A B : Type 0} (f : A → B) (keys : List A) (first count : ℕ) (xs : List B) → map f keys ≡ range first count xs → length keys ≤ count
few_keys f keys first count xs e = omega (arith, length-map keys f, ap length e, length-take count (drop first xs))
