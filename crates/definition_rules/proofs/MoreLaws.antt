-- Rules of references that were added one after the other.
use Rattle.std.proofs.Common.{◌≡◌, ℕ, zero, suc, ◌+◌, ◌<◌, ◌≤◌, Bool, true, false, List, [], ◌∷◌, ◌++◌, length, take, get_or, sym, ap, subst, ◌∙◌, arith, add-one}
use Rattle.std.specs.Prelude.{count_by}
use Rattle.std.specs.List.{range_with_len}
use Rattle.std.proofs.lemmas.List.{take_all}
use Rattle.std.proofs.lemmas.List.FromFn.{length-range_with_len}
use Rattle.std.proofs.lemmas.List.Sums.{count_by_more_yes, count_by_more_no}
use Rattle.kept_rules.specs.Row.{Row}
use Rattle.row_rules.specs.declared.rules.RowRules.{RowRules}
use Rattle.row_rules.specs.Links.{keeps_each, Adds, links_from}
use Rattle.row_rules.proofs.LinkLaws.{adds_after, links_more}

one_further : (a n j : ℕ) → a + n ≡ j → range_with_len a (suc n) ≡ range_with_len a n ++ j ∷ []
one_further a zero j e = let same : a ≡ j = omega (arith, e) in ap (λ k. k ∷ []) same
one_further a (suc n) j e = let next : a + 1 + n ≡ j = omega (arith, e) in ap (λ ks. a ∷ ks) (one_further (a + 1) n j next)

counting_more : (a n j : ℕ) → a + n ≡ j → range_with_len a (n + 1) ≡ range_with_len a n ++ j ∷ []
counting_more a n j e = ap (range_with_len a) (add-one n) ∙ one_further a n j e

-- of the first n references
module _ (at : ℕ → Row) (names : ℕ → List Row) (a b : RowRules) where
  pub definitions_more : (c : RowRules) (n : ℕ) (cs : List Row) → Adds (links_from at names 0 (range_with_len 0 n)) a b → cs ≡ names n → Adds (keeps_each (at n) cs) b c → Adds (links_from at names 0 (range_with_len 0 (n + 1))) a c
  definitions_more c n cs first e second =
      let count : length (range_with_len 0 n) ≡ n = length-range_with_len 0 n in
      let long : n ≡ 0 + length (range_with_len 0 n) = omega (arith, count) in
      let same : 0 + n ≡ n = omega arith in
      let more : links_from at names 0 (range_with_len 0 n) ++ keeps_each (at n) cs ≡ links_from at names 0 (range_with_len 0 (n + 1)) =
      ap (λ ds. links_from at names 0 (range_with_len 0 n) ++ keeps_each (at n) ds) e
      ∙ ap (λ k. links_from at names 0 (range_with_len 0 n) ++ keeps_each (at k) (names n)) long
      ∙ sym (links_more at names 0 (range_with_len 0 n) n)
      ∙ ap (links_from at names 0) (sym (counting_more 0 n n same)) in
      subst (λ ls. Adds ls a c) more (adds_after (links_from at names 0 (range_with_len 0 n)) (keeps_each (at n) cs) a b c first second)

  pub definitions_as : (k n : ℕ) → k ≡ n → Adds (links_from at names 0 (range_with_len 0 k)) a b → Adds (links_from at names 0 (range_with_len 0 n)) a b
  definitions_as k n e adds = subst (λ j. Adds (links_from at names 0 (range_with_len 0 j)) a b) e adds

-- those of a kind among the first rows
module _ (of_kind : List ℕ → Bool) (rows : List (List ℕ)) where
  pub one_more : (n k : ℕ) → n < length rows → of_kind (get_or rows n []) ≡ true → k ≡ count_by of_kind (take n rows) → k + 1 ≡ count_by of_kind (take (n + 1) rows)
  one_more n k within kind e = ap (λ j. j + 1) e ∙ sym (count_by_more_yes of_kind rows n [] within kind)

  pub no_more : (n k : ℕ) → n < length rows → of_kind (get_or rows n []) ≡ false → k ≡ count_by of_kind (take n rows) → k ≡ count_by of_kind (take (n + 1) rows)
  no_more n k within kind e = e ∙ sym (count_by_more_no of_kind rows n [] within kind)

  pub all_counted : (n k : ℕ) → length rows ≤ n → k ≡ count_by of_kind (take n rows) → k ≡ count_by of_kind rows
  all_counted n k past e = e ∙ ap (count_by of_kind) (take_all n rows past)
