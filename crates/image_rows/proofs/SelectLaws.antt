-- Rows that are kept, one after the other.
use Rattle.std.proofs.Common.{◌≡◌, ℕ, suc, ◌+◌, ◌<◌, ◌≤◌, Bool, true, false, cond, List, [], ◌∷◌, ◌++◌, map, length, take, get_or, refl, sym, ap, ◌∙◌}
use Rattle.std.specs.Prelude.{if◌then◌else◌}
use Rattle.std.specs.List.{filter}
use Rattle.std.proofs.lemmas.List.{append-nil, length-append, map-append, take_more, take_all}
use Rattle.std.proofs.lemmas.List.Elements.{filter-append}
use Rattle.kept_rows.specs.Select.{select}

-- all rows pass a test that always holds
pub all_pass : {A : Type 0} (xs : List A) → filter (λ x. true) xs ≡ xs
all_pass [] = refl
all_pass (x ∷ xs) = ap (λ ys. x ∷ ys) (all_pass xs)

-- one more behind them
select_push : {A : Type 0} (keep : ℕ → Bool) (xs : List A) (x : A) → select keep (xs ++ x ∷ []) ≡ select keep xs ++ (if keep (length xs) then x ∷ [] else [])
select_push keep [] x = refl
select_push keep (y ∷ ys) x = go (keep 0) (select_push (λ k. keep (suc k)) ys x)
  where
    go : (b : Bool) → select (λ k. keep (suc k)) (ys ++ x ∷ []) ≡ select (λ k. keep (suc k)) ys ++ (if keep (suc (length ys)) then x ∷ [] else []) → (if b then y ∷ select (λ k. keep (suc k)) (ys ++ x ∷ []) else select (λ k. keep (suc k)) (ys ++ x ∷ [])) ≡ (if b then y ∷ select (λ k. keep (suc k)) ys else select (λ k. keep (suc k)) ys) ++ (if keep (suc (length ys)) then x ∷ [] else [])
    go true e = ap (λ zs. y ∷ zs) e
    go false e = e

-- the parts of those of the first so many rows that pass a test
module _ {A B : Type 0} (keep : ℕ → Bool) (test : A → Bool) (part : A → B) (xs : List A) where
  abbrev passed : ℕ → List A
  passed n = filter test (take n xs)

  parted : (b : Bool) (x : A) → map part (if b then x ∷ [] else []) ≡ (if b then part x ∷ [] else [])
  parted true x = refl
  parted false x = refl

  passed_more : (n : ℕ) (d : A) → n < length xs → passed (n + 1) ≡ passed n ++ filter test (get_or xs n d ∷ [])
  passed_more n d within = ap (filter test) (take_more xs n d within) ∙ filter-append test (take n xs) (get_or xs n d ∷ [])

  -- the next one passes
  next_in : (n : ℕ) (d : A) → n < length xs → test (get_or xs n d) ≡ true → passed (n + 1) ≡ passed n ++ get_or xs n d ∷ []
  next_in n d within passes = passed_more n d within ∙ ap (λ b. passed n ++ cond b (get_or xs n d ∷ []) []) passes

  -- or doesn't
  next_out : (n : ℕ) (d : A) → n < length xs → test (get_or xs n d) ≡ false → passed (n + 1) ≡ passed n
  next_out n d within fails = passed_more n d within ∙ ap (λ b. passed n ++ cond b (get_or xs n d ∷ []) []) fails ∙ append-nil (passed n)

  pub one_more : (now next : List B) (n number : ℕ) (d : A) → n < length xs → test (get_or xs n d) ≡ true → number ≡ length (passed n) → now ≡ map part (select keep (passed n)) → next ≡ now ++ (if keep number then part (get_or xs n d) ∷ [] else []) → next ≡ map part (select keep (passed (n + 1)))
  one_more now next n number d within passes count before pushed =
      pushed
      ∙ ap (λ ys. ys ++ (if keep number then part (get_or xs n d) ∷ [] else [])) before
      ∙ ap (λ k. map part (select keep (passed n)) ++ (if keep k then part (get_or xs n d) ∷ [] else [])) count
      ∙ ap (λ ys. map part (select keep (passed n)) ++ ys) (sym (parted (keep (length (passed n))) (get_or xs n d)))
      ∙ sym (map-append part (select keep (passed n)) (if keep (length (passed n)) then get_or xs n d ∷ [] else []))
      ∙ ap (map part) (sym (select_push keep (passed n) (get_or xs n d)) ∙ ap (select keep) (sym (next_in n d within passes)))

  pub one_counted : (n number : ℕ) (d : A) → n < length xs → test (get_or xs n d) ≡ true → number ≡ length (passed n) → number + 1 ≡ length (passed (n + 1))
  one_counted n number d within passes count =
      ap (λ k. k + 1) count ∙ sym (length-append (passed n) (get_or xs n d ∷ [])) ∙ sym (ap length (next_in n d within passes))

  pub one_left : (now : List B) (n : ℕ) (d : A) → n < length xs → test (get_or xs n d) ≡ false → now ≡ map part (select keep (passed n)) → now ≡ map part (select keep (passed (n + 1)))
  one_left now n d within fails before = before ∙ ap (λ ys. map part (select keep ys)) (sym (next_out n d within fails))

  pub none_counted : (n number : ℕ) (d : A) → n < length xs → test (get_or xs n d) ≡ false → number ≡ length (passed n) → number ≡ length (passed (n + 1))
  none_counted n number d within fails count = count ∙ ap length (sym (next_out n d within fails))

  pub all_parts : (now : List B) (n : ℕ) → length xs ≤ n → now ≡ map part (select keep (passed n)) → now ≡ map part (select keep (filter test xs))
  all_parts now n past is = is ∙ ap (λ ys. map part (select keep (filter test ys))) (take_all n xs past)
