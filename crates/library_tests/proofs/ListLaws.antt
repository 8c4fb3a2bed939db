-- Tests of all elements of a list, one after the other.
use Rattle.std.proofs.Common.{◌≡◌, ℕ, ◌+◌, ◌-◌, ◌<◌, ◌≤◌, Bool, true, false, ◌&&◌, List, length, take, get_or, sym, ap, ◌∙◌, arith}
use Rattle.std.specs.List.{list_all, range_with_len}
use Rattle.std.proofs.lemmas.List.{take_all}
use Rattle.std.proofs.lemmas.List.Folds.{list_all_more, list_all_at}
use Rattle.std.proofs.lemmas.List.FromFn.{get_or-range_with_len, length-range_with_len}

pub both : (a b : Bool) → a ≡ true → b ≡ true → (a && b) ≡ true
both a b e g = ap (λ x. x && b) e ∙ g

module _ {A : Type 0} (test : A → Bool) (xs : List A) where
  pub all_more : (i : ℕ) (d : A) → i < length xs → list_all test (take i xs) ≡ true → test (get_or xs i d) ≡ true → list_all test (take (i + 1) xs) ≡ true
  all_more i d within so_far here = list_all_more test xs i d within ∙ both _ _ so_far here

  pub not_all : (i : ℕ) (d : A) → i < length xs → test (get_or xs i d) ≡ false → false ≡ list_all test xs
  not_all i d within here = sym (list_all_at test xs i d within here)

  pub all_passed : (i : ℕ) → length xs ≤ i → list_all test (take i xs) ≡ true → true ≡ list_all test xs
  all_passed i past so_far = sym (ap (list_all test) (sym (take_all i xs past)) ∙ so_far)

module _ (has : ℕ → Bool) (first end number : ℕ) (low : first ≤ number) (high : number < end) where
  abbrev numbers : List ℕ
  numbers = range_with_len first (end - first)

  at : get_or numbers (number - first) 0 ≡ number
  at = let there = get_or-range_with_len first (end - first) (number - first) 0 (omega (arith, low, high)) in omega (arith, there, low)

  inside : number - first < length numbers
  inside = let long = length-range_with_len first (end - first) in omega (arith, long, low, high)

  pub range_more : list_all has (take (number - first) numbers) ≡ true → has number ≡ true → list_all has (take (number + 1 - first) numbers) ≡ true
  range_more so_far here =
      let next : number + 1 - first ≡ number - first + 1 = omega (arith, low) in
      ap (λ k. list_all has (take k numbers)) next ∙ all_more has numbers (number - first) 0 inside so_far (ap has at ∙ here)

  pub range_not : has number ≡ false → false ≡ list_all has numbers
  range_not here = not_all has numbers (number - first) 0 inside (ap has at ∙ here)

pub range_all : (has : ℕ → Bool) (first end number : ℕ) → end ≤ number → list_all has (take (number - first) (range_with_len first (end - first))) ≡ true → true ≡ list_all has (range_with_len first (end - first))
range_all has first end number past so_far =
    all_passed has (range_with_len first (end - first)) (number - first) (let long = length-range_with_len first (end - first) in omega (arith, long, past)) so_far
