-- Links of the items of a list, one after the other.
use Rattle.std.proofs.Common.{◌≡◌, ℕ, suc, ◌+◌, ◌<◌, ◌≤◌, Bool, List, [], ◌∷◌, ◌++◌, length, take, get_or, sym, ap, subst, ◌∙◌, arith}
use Rattle.std.proofs.lemmas.List.{take_more, take_all, length-take-le, append-nil, append_assoc}
use Rattle.kept_rules.specs.Row.{Row}
use Rattle.row_rules.specs.declared.rules.RowRules.{RowRules}
use Rattle.row_rules.specs.Links.{keeps_each, links_from, Adds}
use Rattle.row_rules.proofs.LinkLaws.{adds_after, keeps_after, links_more}
use Rattle.member_rules.specs.Members.{row_where, passing_rows}

module _ {A : Type 0} (at : ℕ → Row) (names : A → List Row) (xs : List A) (a b : RowRules) where
  pub item_added : (c : RowRules) (n : ℕ) (d : A) (r : Row) (cs : List Row) → n < length xs → Adds (links_from at names 0 (take n xs)) a b → r ≡ at n → cs ≡ names (get_or xs n d) → Adds (keeps_each r cs) b c → Adds (links_from at names 0 (take (n + 1) xs)) a c
  item_added c n d r cs within first place named second =
      let few : n ≤ length xs = omega (arith, within) in
      let taken : length (take n xs) ≡ n = length-take-le n xs few in
      let long : n ≡ 0 + length (take n xs) = omega (arith, taken) in
      let more : links_from at names 0 (take n xs) ++ keeps_each r cs ≡ links_from at names 0 (take (n + 1) xs) =
      ap (λ q. links_from at names 0 (take n xs) ++ keeps_each q cs) place
      ∙ ap (λ ds. links_from at names 0 (take n xs) ++ keeps_each (at n) ds) named
      ∙ ap (λ k. links_from at names 0 (take n xs) ++ keeps_each (at k) (names (get_or xs n d))) long
      ∙ sym (links_more at names 0 (take n xs) (get_or xs n d))
      ∙ ap (links_from at names 0) (sym (take_more xs n d within)) in
      subst (λ ls. Adds ls a c) more (adds_after (links_from at names 0 (take n xs)) (keeps_each r cs) a b c first second)

  pub items_added : (n : ℕ) → length xs ≤ n → Adds (links_from at names 0 (take n xs)) a b → Adds (links_from at names 0 xs) a b
  items_added n past adds = subst (λ ys. Adds (links_from at names 0 ys) a b) (take_all n xs past) adds

module _ {A : Type 0} (at : ℕ → Row) (test : A → Bool) where
  passing_more : (n : ℕ) (ys : List A) (x : A) → passing_rows at test n (ys ++ x ∷ []) ≡ passing_rows at test n ys ++ row_where (test x) (at (n + length ys))
  passing_more n [] x = let same : n ≡ n + 0 = omega arith in append-nil (row_where (test x) (at n)) ∙ ap (λ k. row_where (test x) (at k)) same
  passing_more n (y ∷ ys) x =
      let same : suc n + length ys ≡ n + suc (length ys) = omega arith in
      ap (λ zs. row_where (test y) (at n) ++ zs) (passing_more (suc n) ys x)
      ∙ sym (append_assoc (row_where (test y) (at n)) (passing_rows at test (suc n) ys) (row_where (test x) (at (suc n + length ys))))
      ∙ ap (λ k. (row_where (test y) (at n) ++ passing_rows at test (suc n) ys) ++ row_where (test x) (at k)) same

  module _ (r : Row) (first : ℕ) (xs : List A) (a b : RowRules) where
    pub pass_added : (c : RowRules) (n : ℕ) (d : A) (then : Row) (passes : Bool) → n < length xs → Adds (keeps_each r (passing_rows at test first (take n xs))) a b → passes ≡ test (get_or xs n d) → then ≡ at (first + n) → Adds (keeps_each r (row_where passes then)) b c → Adds (keeps_each r (passing_rows at test first (take (n + 1) xs))) a c
    pass_added c n d then passes within before test_is place second =
        let few : n ≤ length xs = omega (arith, within) in
        let taken : length (take n xs) ≡ n = length-take-le n xs few in
        let long : first + n ≡ first + length (take n xs) = omega (arith, taken) in
        let more : passing_rows at test first (take n xs) ++ row_where passes then ≡ passing_rows at test first (take (n + 1) xs) =
        ap (λ b. passing_rows at test first (take n xs) ++ row_where b then) test_is
        ∙ ap (λ q. passing_rows at test first (take n xs) ++ row_where (test (get_or xs n d)) q) place
        ∙ ap (λ k. passing_rows at test first (take n xs) ++ row_where (test (get_or xs n d)) (at k)) long
        ∙ sym (passing_more first (take n xs) (get_or xs n d))
        ∙ ap (passing_rows at test first) (sym (take_more xs n d within)) in
        subst (λ cs. Adds (keeps_each r cs) a c) more (keeps_after r (passing_rows at test first (take n xs)) (row_where passes then) a b c before second)

    pub passes_added : (n : ℕ) → length xs ≤ n → Adds (keeps_each r (passing_rows at test first (take n xs))) a b → Adds (keeps_each r (passing_rows at test first xs)) a b
    passes_added n past adds = subst (λ ys. Adds (keeps_each r (passing_rows at test first ys)) a b) (take_all n xs past) adds
