-- Ranges of rows.
use Rattle.std.proofs.Common.{◌≡◌, ◌⊎◌, inl, inr, ℕ, zero, suc, ◌+◌, ◌-◌, ◌<◌, ◌≤◌, min, List, [], ◌∷◌, length, take, drop, Some, refl, sym, ap, ◌∙◌, arith}
use Rattle.std.specs.Prelude.{slice_get}
use Rattle.std.proofs.lemmas.Bool.{cases_lt}
use Rattle.std.proofs.lemmas.List.{take_all, take_rest, drop_all, length-drop}
use Rattle.assemblies.specs.Binding.{range}

take_none : {A : Type 0} (n : ℕ) (xs : List A) → xs ≡ [] → take n xs ≡ []
take_none zero xs e = refl
take_none (suc n) xs e = ap (take (suc n)) e

-- the rows between two places within the list
pub range_between : {A : Type 0} (first count start end : ℕ) (xs : List A) → start ≡ min (length xs) first → end ≡ min (length xs) (first + count) → take (end - start) (drop start xs) ≡ range first count xs
range_between first count start end xs s e = go (cases_lt first (length xs))
  where
    inside : first < length xs → (first + count < length xs) ⊎ (length xs ≤ first + count) → take (end - start) (drop start xs) ≡ range first count xs
    inside low (inl all) =
        let begins : start ≡ first = omega (arith, s, low) in
        let long : end - start ≡ count = omega (arith, s, e, low, all) in
        ap (λ k. take k (drop start xs)) long ∙ ap (λ k. take count (drop k xs)) begins
    inside low (inr few) =
        let begins : start ≡ first = omega (arith, s, low) in
        let long : end - start ≡ length xs - start = omega (arith, s, e, low, few) in
        let left = length-drop first xs in
        ap (λ k. take k (drop start xs)) long ∙ (take_rest xs start ∙ (ap (λ k. drop k xs) begins ∙ sym (take_all count (drop first xs) (omega (arith, left, few)))))

    go : (first < length xs) ⊎ (length xs ≤ first) → take (end - start) (drop start xs) ≡ range first count xs
    go (inl low) = inside low (cases_lt (first + count) (length xs))
    go (inr high) =
        take_none (end - start) (drop start xs) (drop_all start xs (omega (arith, s, high))) ∙ sym (take_none count (drop first xs) (drop_all first xs high))

get_take : {A : Type 0} (count : ℕ) (xs : List A) (i : ℕ) (x : A) → slice_get (take count xs) i ≡ Some x → (i < count) × (slice_get xs i ≡ Some x)
get_take zero xs i x e = absurd (cc e)
get_take (suc count) [] i x e = absurd (cc e)
get_take (suc count) (y ∷ ys) zero x e = (omega arith, e)
get_take (suc count) (y ∷ ys) (suc i) x e = let r = get_take count ys i x e in (let h = r.0 in omega (arith, h), r.1)

put_take : {A : Type 0} (count : ℕ) (xs : List A) (i : ℕ) → i < count → slice_get (take count xs) i ≡ slice_get xs i
put_take zero xs i low = absurd (omega (arith, low))
put_take (suc count) [] i low = refl
put_take (suc count) (y ∷ ys) zero low = refl
put_take (suc count) (y ∷ ys) (suc i) low = put_take count ys i (omega (arith, low))

get_drop : {A : Type 0} (first : ℕ) (xs : List A) (i : ℕ) → slice_get (drop first xs) i ≡ slice_get xs (first + i)
get_drop zero xs i = let same : i ≡ 0 + i = omega arith in ap (slice_get xs) same
get_drop (suc first) [] i = refl
get_drop (suc first) (y ∷ ys) i = let same : suc first + i ≡ suc (first + i) = omega arith in get_drop first ys i ∙ sym (ap (slice_get (y ∷ ys)) same)

-- the item of a range
pub get_range : {A : Type 0} (first count : ℕ) (xs : List A) (i : ℕ) (x : A) → slice_get (range first count xs) i ≡ Some x → (i < count) × (slice_get xs (first + i) ≡ Some x)
get_range first count xs i x e = let r = get_take count (drop first xs) i x e in (r.0, sym (get_drop first xs i) ∙ r.1)

pub put_range : {A : Type 0} (first count : ℕ) (xs : List A) (i : ℕ) (x : A) → i < count → slice_get xs (first + i) ≡ Some x → slice_get (range first count xs) i ≡ Some x
put_range first count xs i x low e = put_take count (drop first xs) i low ∙ get_drop first xs i ∙ e
