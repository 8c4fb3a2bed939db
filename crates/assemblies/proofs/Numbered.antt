-- Rows with their numbers: what is kept of them.
use Rattle.std.proofs.Common.{◌≡◌, ℕ, zero, suc, ◌+◌, Bool, true, false, List, [], ◌∷◌, map, take, drop, Some, refl, sym, ap, ◌∙◌, subst, arith, cond}
use Rattle.std.specs.Prelude.{if◌then◌else◌, slice_get}
use Rattle.std.specs.Option.{option_map}
use Rattle.std.specs.List.{filter, find}
use Rattle.kept_rows.specs.Select.{select, below, behind}
use Rattle.assemblies.specs.Binding.{numbered}

-- the rest of a choice
pub behind_is : (n : ℕ) (keep : ℕ → Bool) (m : ℕ) → behind n keep m ≡ keep (n + m)
behind_is zero keep m = ap keep (omega arith)
behind_is (suc n) keep m = behind_is n (λ k. keep (suc k)) m ∙ ap keep (omega arith)

select_same : {A : Type 0} (f g : ℕ → Bool) (xs : List A) → ((n : ℕ) → f n ≡ g n) → select f xs ≡ select g xs
select_same f g [] h = refl
select_same f g (x ∷ xs) h =
    ap (λ (b : Bool). if b then x ∷ select (λ k. f (suc k)) xs else select (λ k. f (suc k)) xs) (h 0)
    ∙ ap (λ ys. if g 0 then x ∷ ys else ys) (select_same (λ k. f (suc k)) (λ k. g (suc k)) xs (λ n. h (suc n)))

pub below_next : (keep : ℕ → Bool) (n : ℕ) → below keep (suc n) ≡ (if keep n then suc (below keep n) else below keep n)
below_next keep zero = refl
below_next keep (suc n) = go (keep 0) (keep (suc n)) (below_next (λ k. keep (suc k)) n)
  where
    go : (a b : Bool) → below (λ k. keep (suc k)) (suc n) ≡ (if b then suc (below (λ k. keep (suc k)) n) else below (λ k. keep (suc k)) n) → (if a then suc (below (λ k. keep (suc k)) (suc n)) else below (λ k. keep (suc k)) (suc n)) ≡ (if b then suc (if a then suc (below (λ k. keep (suc k)) n) else below (λ k. keep (suc k)) n) else (if a then suc (below (λ k. keep (suc k)) n) else below (λ k. keep (suc k)) n))
    go true true e = ap suc e
    go true false e = ap suc e
    go false true e = e
    go false false e = e

pub map_select : {A B : Type 0} (g : A → B) (keep : ℕ → Bool) (xs : List A) → map g (select keep xs) ≡ select keep (map g xs)
map_select g keep [] = refl
map_select g keep (x ∷ xs) = go (keep 0) (map_select g (λ k. keep (suc k)) xs)
  where
    go : (b : Bool) → map g (select (λ k. keep (suc k)) xs) ≡ select (λ k. keep (suc k)) (map g xs) → map g (if b then x ∷ select (λ k. keep (suc k)) xs else select (λ k. keep (suc k)) xs) ≡ (if b then g x ∷ select (λ k. keep (suc k)) (map g xs) else select (λ k. keep (suc k)) (map g xs))
    go true e = ap (λ ys. g x ∷ ys) e
    go false e = e

module _ {A B : Type 0} (make : ℕ → A → B) where
  pub take_numbered : (count n : ℕ) (xs : List A) → take count (numbered make n xs) ≡ numbered make n (take count xs)
  take_numbered zero n xs = refl
  take_numbered (suc count) n [] = refl
  take_numbered (suc count) n (x ∷ xs) = ap (λ ys. make n x ∷ ys) (take_numbered count (suc n) xs)

  pub drop_numbered : (first n : ℕ) (xs : List A) → drop first (numbered make n xs) ≡ numbered make (n + first) (drop first xs)
  drop_numbered zero n xs = let same : n ≡ n + 0 = omega arith in ap (λ k. numbered make k xs) same
  drop_numbered (suc first) n [] = refl
  drop_numbered (suc first) n (x ∷ xs) = let same : suc n + first ≡ n + suc first = omega arith in drop_numbered first (suc n) xs ∙ ap (λ k. numbered make k (drop first xs)) same

  pub get_numbered : (n i : ℕ) (xs : List A) → slice_get (numbered make n xs) i ≡ option_map (make (n + i)) (slice_get xs i)
  get_numbered n i [] = refl
  get_numbered n zero (x ∷ xs) = let same : n ≡ n + 0 = omega arith in ap (λ k. Some (make k x)) same
  get_numbered n (suc i) (x ∷ xs) = let same : suc n + i ≡ n + suc i = omega arith in get_numbered (suc n) i xs ∙ ap (λ k. option_map (make k) (slice_get xs i)) same

  -- an index of the rest is one of the whole
  shifted : (P : ℕ → A → Type 0) (n : ℕ) (x : A) (xs : List A) → ((i : ℕ) (y : A) → slice_get (x ∷ xs) i ≡ Some y → P (n + i) y) → (i : ℕ) (y : A) → slice_get xs i ≡ Some y → P (suc n + i) y
  shifted P n x xs h i y e = let same : n + suc i ≡ suc n + i = omega arith in subst (λ k. P k y) same (h (suc i) y e)

  headed : (P : ℕ → A → Type 0) (n : ℕ) (x : A) (xs : List A) → ((i : ℕ) (y : A) → slice_get (x ∷ xs) i ≡ Some y → P (n + i) y) → P n x
  headed P n x xs h = let same : n + 0 ≡ n = omega arith in subst (λ k. P k x) same (h 0 x refl)

  -- a test that only kept ones pass
  pub filter_twice : (test kept : B → Bool) (n : ℕ) (xs : List A) → ((i : ℕ) (x : A) → slice_get xs i ≡ Some x → test (make (n + i) x) ≡ true → kept (make (n + i) x) ≡ true) → filter test (filter kept (numbered make n xs)) ≡ filter test (numbered make n xs)
  filter_twice test kept n [] h = refl
  filter_twice test kept n (x ∷ xs) h =
      go (kept (make n x)) (test (make n x)) refl refl (headed (λ k y. test (make k y) ≡ true → kept (make k y) ≡ true) n x xs h) (filter_twice test kept (suc n) xs (shifted (λ k y. test (make k y) ≡ true → kept (make k y) ≡ true) n x xs h))
    where
      go : (b t : Bool) → kept (make n x) ≡ b → test (make n x) ≡ t → (test (make n x) ≡ true → kept (make n x) ≡ true) → filter test (filter kept (numbered make (suc n) xs)) ≡ filter test (numbered make (suc n) xs) → filter test (cond b (make n x ∷ filter kept (numbered make (suc n) xs)) (filter kept (numbered make (suc n) xs))) ≡ cond t (make n x ∷ filter test (numbered make (suc n) xs)) (filter test (numbered make (suc n) xs))
      go true t p q k e = ap (λ s. cond s (make n x ∷ filter test (filter kept (numbered make (suc n) xs))) (filter test (filter kept (numbered make (suc n) xs)))) q ∙ ap (λ ys. cond t (make n x ∷ ys) ys) e
      go false true p q k e = absurd (cc (sym p ∙ k q))
      go false false p q k e = e

  -- what a search finds is a row
  pub find_row : (test : B → Bool) (n : ℕ) (xs : List A) (y : B) → find test (numbered make n xs) ≡ Some y → (i : ℕ) × ((x : A) × (slice_get xs i ≡ Some x) × (make (n + i) x ≡ y) × (test y ≡ true))
  find_row test n [] y e = absurd (cc e)
  find_row test n (x ∷ xs) y e = go (test (make n x)) refl e (find_row test (suc n) xs y)
    where
      go : (t : Bool) → test (make n x) ≡ t → cond t (Some (make n x)) (find test (numbered make (suc n) xs)) ≡ Some y → (find test (numbered make (suc n) xs) ≡ Some y → (i : ℕ) × ((x : A) × (slice_get xs i ≡ Some x) × (make (suc n + i) x ≡ y) × (test y ≡ true))) → (i : ℕ) × ((z : A) × (slice_get (x ∷ xs) i ≡ Some z) × (make (n + i) z ≡ y) × (test y ≡ true))
      go true q e h = let same : make n x ≡ y = cc e in let at : n + 0 ≡ n = omega arith in (0, (x, refl, ap (λ k. make k x) at ∙ same, ap test (sym same) ∙ q))
      go false q e h = let w = h e in let at : n + suc w.0 ≡ suc n + w.0 = omega arith in (suc w.0, (w.1.0, w.1.1, ap (λ k. make k w.1.0) at ∙ w.1.2, w.1.3))

-- what is kept of numbered rows has the numbers of the kept ones
pub numbered_law : {A A' B : Type 0} (make : ℕ → A → B) (make' : ℕ → A' → B) (conv : ℕ → A → A') (to : B → B) (kept : B → Bool) (keep : ℕ → Bool) (xs : List A) (n : ℕ) → ((m : ℕ) (x : A) → kept (make m x) ≡ keep m) → ((i : ℕ) (x : A) → slice_get xs i ≡ Some x → keep (n + i) ≡ true → make (n + i) x ≡ to (make' (below keep (n + i)) (conv (n + i) x))) → filter kept (numbered make n xs) ≡ map to (numbered make' (below keep n) (select (behind n keep) (numbered conv n xs)))
numbered_law make make' conv to kept keep [] n test h = refl
numbered_law {A} {A'} {B} make make' conv to kept keep (x ∷ xs) n test h =
    ap (λ b. cond b (make n x ∷ filter kept (numbered make (suc n) xs)) (filter kept (numbered make (suc n) xs))) (test n x)
    ∙ go (keep n) refl (numbered_law make make' conv to kept keep xs (suc n) test (shifted make (λ k y. keep k ≡ true → make k y ≡ to (make' (below keep k) (conv k y))) n x xs h))
    ∙ sym (ap (λ ys. map to (numbered make' (below keep n) ys)) (shape (behind n keep 0) (behind_is n keep 0 ∙ ap keep (omega arith))))
  where
    shape : (b : Bool) → b ≡ keep n → (if b then conv n x ∷ select (λ k. behind n keep (suc k)) (numbered conv (suc n) xs) else select (λ k. behind n keep (suc k)) (numbered conv (suc n) xs)) ≡ (if keep n then conv n x ∷ select (behind (suc n) keep) (numbered conv (suc n) xs) else select (behind (suc n) keep) (numbered conv (suc n) xs))
    shape b e =
        ap (λ ys. if b then conv n x ∷ ys else ys) (select_same (λ k. behind n keep (suc k)) (behind (suc n) keep) (numbered conv (suc n) xs) (λ i. behind_is n keep (suc i) ∙ ap keep (omega arith) ∙ sym (behind_is (suc n) keep i)))
        ∙ ap (λ (c : Bool). if c then conv n x ∷ select (behind (suc n) keep) (numbered conv (suc n) xs) else select (behind (suc n) keep) (numbered conv (suc n) xs)) e

    go : (b : Bool) → keep n ≡ b → filter kept (numbered make (suc n) xs) ≡ map to (numbered make' (below keep (suc n)) (select (behind (suc n) keep) (numbered conv (suc n) xs))) → cond b (make n x ∷ filter kept (numbered make (suc n) xs)) (filter kept (numbered make (suc n) xs)) ≡ map to (numbered make' (below keep n) (if b then conv n x ∷ select (behind (suc n) keep) (numbered conv (suc n) xs) else select (behind (suc n) keep) (numbered conv (suc n) xs)))
    go true k ih =
        ap (λ m. m ∷ filter kept (numbered make (suc n) xs)) (headed make (λ k y. keep k ≡ true → make k y ≡ to (make' (below keep k) (conv k y))) n x xs h k)
        ∙ ap (λ ms. to (make' (below keep n) (conv n x)) ∷ ms) (ih ∙ ap (λ j. map to (numbered make' j (select (behind (suc n) keep) (numbered conv (suc n) xs)))) (below_next keep n ∙ ap (λ (c : Bool). if c then suc (below keep n) else below keep n) k))
    go false k ih =
        ih ∙ ap (λ j. map to (numbered make' j (select (behind (suc n) keep) (numbered conv (suc n) xs)))) (below_next keep n ∙ ap (λ (c : Bool). if c then suc (below keep n) else below keep n) k)

-- rows that are changed alike are numbered alike
pub numbered_map : {A A' : Type 0} (g : A → A') (n : ℕ) (xs : List A) → numbered (λ k x. g x) n xs ≡ map g xs
numbered_map g n [] = refl
numbered_map g n (x ∷ xs) = ap (λ ys. g x ∷ ys) (numbered_map g (suc n) xs)
