-- What a loop finds that looks for the first that passes a test, told of the elements that are left.
use Rattle.std.proofs.Common.{◌≡◌, ℕ, zero, suc, ◌+◌, ◌≤◌, Bool, true, false, cond, List, [], ◌∷◌, length, drop, Option, Some, None, refl, sym, ap, ◌∙◌, arith, add-one}
use Rattle.std.specs.Prelude.{slice_get}
use Rattle.std.specs.List.{position}
use Rattle.std.specs.Option.{option_map}
use Rattle.kept_rows.proofs.SelectLaws.{position_step}

pub drop_past : {A : Type 0} (xs : List A) (n : ℕ) → length xs ≤ n → drop n xs ≡ []
drop_past [] zero h = refl
drop_past [] (suc n) h = refl
drop_past (y ∷ ys) zero h = absurd (omega arith)
drop_past (y ∷ ys) (suc n) h = drop_past ys n (omega arith)

drop_there : {A : Type 0} (xs : List A) (n : ℕ) (x : A) → slice_get xs n ≡ Some x → drop n xs ≡ x ∷ drop (suc n) xs
drop_there [] n x e = cc e
drop_there (y ∷ ys) zero x e = let same : y ≡ x = cc e in ap (λ z. z ∷ ys) same
drop_there (y ∷ ys) (suc n) x e = drop_there ys n x e

module _ {A : Type 0} (test : A → Bool) (xs : List A) where
  -- the first from a number on
  abbrev pub first_from : ℕ → Option ℕ
  first_from n = option_map (λ k. n + k) (position test (drop n xs))

  pub first_begins : position test xs ≡ first_from 0
  first_begins = by (position test xs)
    where
      by : (o : Option ℕ) → o ≡ option_map (λ k. 0 + k) o
      by None = refl
      by (Some n) = let same : n ≡ 0 + n = omega arith in ap Some same

  by_test : (n : ℕ) (x : A) (b : Bool) → slice_get xs n ≡ Some x → test x ≡ b → first_from n ≡ option_map (λ k. n + k) (cond b (Some 0) (option_map suc (position test (drop (suc n) xs))))
  by_test n x b there e =
      ap (λ ys. option_map (λ k. n + k) (position test ys)) (drop_there xs n x there)
      ∙ ap (option_map (λ k. n + k)) (position_step test x (drop (suc n) xs) ∙ ap (λ t. cond t (Some 0) (option_map suc (position test (drop (suc n) xs)))) e)

  pub first_here : (n : ℕ) (x : A) → slice_get xs n ≡ Some x → test x ≡ true → first_from n ≡ Some n
  first_here n x there e = let same : n + 0 ≡ n = omega arith in by_test n x true there e ∙ ap Some same

  pub first_behind : (n : ℕ) (x : A) → slice_get xs n ≡ Some x → test x ≡ false → first_from n ≡ first_from (n + 1)
  first_behind n x there e = by_test n x false there e ∙ go (position test (drop (suc n) xs)) ∙ ap first_from (sym (add-one n))
    where
      go : (o : Option ℕ) → option_map (λ k. n + k) (option_map suc o) ≡ option_map (λ k. suc n + k) o
      go None = refl
      go (Some k) = let same : n + suc k ≡ suc n + k = omega arith in ap Some same

  pub first_none : (n : ℕ) → length xs ≤ n → first_from n ≡ None
  first_none n h = ap (λ ys. option_map (λ k. n + k) (position test ys)) (drop_past xs n h)
