-- Elements that stand behind one another, looked at one after the other.
use Rattle.std.proofs.Common.{◌≡◌, ℕ, zero, suc, ◌+◌, ◌-◌, ◌<◌, ◌≤◌, Bool, true, false, cond, List, [], ◌∷◌, drop, length, take, min, Option, Some, None, refl, sym, ap, ◌∙◌, arith, add-one}
use Rattle.std.specs.Prelude.{slice_get}
use Rattle.std.specs.List.{position}
use Rattle.std.specs.Option.{option_map}
use Rattle.kept_rows.proofs.SelectLaws.{position_step}
use Rattle.assemblies.specs.Binding.{range}
use Rattle.member_search.proofs.KeyRanges.{drop_there, range_begins}

-- the place, counted from a start, of the first that passes among those from a row up to an end
abbrev pub rest : {A : Type 0} → (A → Bool) → ℕ → ℕ → List A → ℕ → Option ℕ
rest test start end xs n = option_map (λ k. (n - start) + k) (position test (take (end - n) (drop n xs)))

pub there : {A : Type 0} (xs : List A) (n : ℕ) → n < length xs → (x : A) × (slice_get xs n ≡ Some x)
there [] n h = absurd (omega (arith, h))
there (y ∷ ys) zero h = (y, refl)
there (y ∷ ys) (suc n) h = there ys n (omega (arith, h))

plus_none : (d : ℕ) (o : Option ℕ) → d ≡ 0 → o ≡ option_map (λ k. d + k) o
plus_none d None e = refl
plus_none d (Some k) e = let same : k ≡ d + k = omega (arith, e) in ap Some same

module _ {A : Type 0} (test : A → Bool) where
  pub rest_begins : (first count end : ℕ) (xs : List A) → end ≡ min (first + count) (length xs) → position test (range first count xs) ≡ rest test first end xs first
  rest_begins first count end xs e =
      let none : first - first ≡ 0 = omega arith in
      ap (position test) (range_begins first count end xs e) ∙ plus_none (first - first) (position test (take (end - first) (drop first xs))) none

  module _ (start end : ℕ) (xs : List A) (n : ℕ) where
    pub rest_ends : end ≤ n → rest test start end xs n ≡ None
    rest_ends h = let none : end - n ≡ 0 = omega arith in ap (λ k. option_map (λ i. (n - start) + i) (position test (take k (drop n xs)))) none

    module _ (x : A) (below : n < end) (here : slice_get xs n ≡ Some x) where
      abbrev behind : Option ℕ
      behind = position test (take (end - (n + 1)) (drop (suc n) xs))

      step : (b : Bool) → test x ≡ b → rest test start end xs n ≡ option_map (λ i. (n - start) + i) (cond b (Some 0) (option_map suc behind))
      step b e =
          let more : end - n ≡ suc (end - (n + 1)) = omega arith in
          ap (λ k. option_map (λ i. (n - start) + i) (position test (take k (drop n xs)))) more
          ∙ ap (λ ys. option_map (λ i. (n - start) + i) (position test (take (suc (end - (n + 1))) ys))) (drop_there xs n x here)
          ∙ ap (option_map (λ i. (n - start) + i)) (position_step test x (take (end - (n + 1)) (drop (suc n) xs)))
          ∙ ap (λ c. option_map (λ i. (n - start) + i) (cond c (Some 0) (option_map suc behind))) e

      pub rest_hits : test x ≡ true → rest test start end xs n ≡ Some (n - start)
      rest_hits e = let same : (n - start) + 0 ≡ n - start = omega arith in step true e ∙ ap Some same

      pub rest_fails : start ≤ n → test x ≡ false → rest test start end xs n ≡ rest test start end xs (n + 1)
      rest_fails low e =
          step false e
          ∙ shift behind
          ∙ ap (λ k. option_map (λ i. ((n + 1) - start) + i) (position test (take (end - (n + 1)) (drop k xs)))) (sym (add-one n))
        where
          shift : (o : Option ℕ) → option_map (λ i. (n - start) + i) (option_map suc o) ≡ option_map (λ i. ((n + 1) - start) + i) o
          shift None = refl
          shift (Some i) = let same : (n - start) + suc i ≡ ((n + 1) - start) + i = omega (arith, low) in ap Some same
