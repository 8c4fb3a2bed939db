-- What is among the elements of lists that are made of others.
use Rattle.std.proofs.Common.{◌≡◌, ◌⊎◌, inl, inr, ⊎_elim, ℕ, zero, suc, ◌+◌, Bool, true, false, cond, List, [], ◌∷◌, ◌++◌, map, length, Option, Some, None, refl, sym, ap, subst, ◌∙◌, arith}
use Rattle.std.specs.Prelude.{slice_get}
use Rattle.std.specs.List.{filter, flat_map}
use Rattle.kept_rules.specs.Row.{Row, in_option}
use Rattle.row_rules.specs.Links.{Link, keeps, links_from}
use Rattle.row_rules.proofs.NameLaws.{IsOf, get_front, get_behind, has_link, is_link}
use Rattle.member_rules.specs.Members.{rows_where, row_where, passing_rows}

abbrev pub Among : {A : Type 0} → List A → A → Type 0
Among xs x = (k : ℕ) × (slice_get xs k ≡ Some x)

pub later : {A : Type 0} (y : A) (xs : List A) (x : A) → Among xs x → Among (y ∷ xs) x
later y xs x (k, e) = (suc k, e)

pub in_front : {A : Type 0} (xs ys : List A) (x : A) → Among xs x → Among (xs ++ ys) x
in_front xs ys x (k, e) = (k, get_front xs ys k x e)

pub in_rest : {A : Type 0} (xs ys : List A) (x : A) → Among ys x → Among (xs ++ ys) x
in_rest xs ys x (k, e) = (length xs + k, get_behind xs ys k ∙ e)

pub in_either : {A : Type 0} (xs ys : List A) (x : A) → Among (xs ++ ys) x → Among xs x ⊎ Among ys x
in_either [] ys x h = inr h
in_either (y ∷ xs) ys x (zero, e) = inl (zero, e)
in_either (y ∷ xs) ys x (suc k, e) = ⊎_elim (λ h. inl (later y xs x h)) (λ h. inr h) (in_either xs ys x (k, e))

pub in_one : {A : Type 0} (y x : A) → Among (y ∷ []) x → y ≡ x
in_one y x (zero, e) = cc e
in_one y x (suc k, e) = absurd (cc e)

module _ {A B : Type 0} (g : A → B) where
  pub in_map : (xs : List A) (x : A) → Among xs x → Among (map g xs) (g x)
  in_map [] x (k, e) = absurd (cc e)
  in_map (y ∷ xs) x (zero, e) = let same : y ≡ x = cc e in (zero, ap (λ z. Some (g z)) same)
  in_map (y ∷ xs) x (suc k, e) = later (g y) (map g xs) (g x) (in_map xs x (k, e))

  pub from_map : (xs : List A) (z : B) → Among (map g xs) z → (x : A) × (Among xs x × (g x ≡ z))
  from_map [] z (k, e) = absurd (cc e)
  from_map (y ∷ xs) z (zero, e) = let same : g y ≡ z = cc e in (y, ((zero, refl), same))
  from_map (y ∷ xs) z (suc k, e) = let r = from_map xs z (k, e) in (r.0, (later y xs r.0 r.1.0, r.1.1))

module _ {A : Type 0} (test : A → Bool) where
  pub in_filter : (xs : List A) (x : A) → test x ≡ true → Among xs x → Among (filter test xs) x
  in_filter [] x t (k, e) = absurd (cc e)
  in_filter (y ∷ xs) x t (zero, e) = let same : y ≡ x = cc e in go (test y) (ap test same ∙ t)
    where
      go : (b : Bool) → b ≡ true → Among (cond b (y ∷ filter test xs) (filter test xs)) x
      go true h = (zero, e)
      go false h = absurd (cc h)
  in_filter (y ∷ xs) x t (suc k, e) = go (test y) (in_filter xs x t (k, e))
    where
      go : (b : Bool) → Among (filter test xs) x → Among (cond b (y ∷ filter test xs) (filter test xs)) x
      go true h = later y (filter test xs) x h
      go false h = h

  pub from_filter : (xs : List A) (x : A) → Among (filter test xs) x → Among xs x × (test x ≡ true)
  from_filter [] x (k, e) = absurd (cc e)
  from_filter (y ∷ xs) x h = go (test y) refl h (from_filter xs x)
    where
      go : (b : Bool) → test y ≡ b → Among (cond b (y ∷ filter test xs) (filter test xs)) x → (Among (filter test xs) x → Among xs x × (test x ≡ true)) → Among (y ∷ xs) x × (test x ≡ true)
      go true t (zero, e) rest = let same : y ≡ x = cc e in ((zero, e), ap test (sym same) ∙ t)
      go true t (suc k, e) rest = let r = rest (k, e) in (later y xs x r.0, r.1)
      go false t g rest = let r = rest g in (later y xs x r.0, r.1)

module _ {A B : Type 0} (g : A → List B) where
  pub in_flat : (xs : List A) (x : A) (z : B) → Among xs x → Among (g x) z → Among (flat_map g xs) z
  in_flat [] x z (k, e) h = absurd (cc e)
  in_flat (y ∷ xs) x z (zero, e) h = let same : y ≡ x = cc e in in_front (g y) (flat_map g xs) z (subst (λ w. Among (g w) z) (sym same) h)
  in_flat (y ∷ xs) x z (suc k, e) h = in_rest (g y) (flat_map g xs) z (in_flat xs x z (k, e) h)

  pub from_flat : (xs : List A) (z : B) → Among (flat_map g xs) z → (x : A) × (Among xs x × Among (g x) z)
  from_flat [] z (k, e) = absurd (cc e)
  from_flat (y ∷ xs) z h = go (in_either (g y) (flat_map g xs) z h) (from_flat xs z)
    where
      go : Among (g y) z ⊎ Among (flat_map g xs) z → (Among (flat_map g xs) z → (x : A) × (Among xs x × Among (g x) z)) → (x : A) × (Among (y ∷ xs) x × Among (g x) z)
      go (inl here) rest = (y, ((zero, refl), here))
      go (inr there) rest = let r = rest there in (r.0, (later y xs r.0 r.1.0, r.1.1))

-- ---- rows

pub in_some : {A : Type 0} (g : A → Row) (o : Option A) (r : Row) → Among (in_option (λ x. g x ∷ []) o) r → (x : A) × ((o ≡ Some x) × (g x ≡ r))
in_some g None r (k, e) = absurd (cc e)
in_some g (Some x) r h = (x, (refl, in_one (g x) r h))

pub some_in : {A : Type 0} (g : A → Row) (o : Option A) (x : A) → o ≡ Some x → Among (in_option (λ x. g x ∷ []) o) (g x)
some_in g o x e = (zero, ap (λ q. slice_get (in_option (λ x. g x ∷ []) q) 0) e)

pub in_where : (b : Bool) (rows : List Row) (r : Row) → Among (rows_where b rows) r → (b ≡ true) × Among rows r
in_where true rows r h = (refl, h)
in_where false rows r (k, e) = absurd (cc e)

pub where_in : (b : Bool) (rows : List Row) (r : Row) → b ≡ true → Among rows r → Among (rows_where b rows) r
where_in b rows r e h = subst (λ c. Among (rows_where c rows) r) (sym e) h

module _ {A : Type 0} (at : ℕ → Row) (test : A → Bool) where
  pub in_passing : (n : ℕ) (xs : List A) (i : ℕ) (x : A) → slice_get xs i ≡ Some x → test x ≡ true → Among (passing_rows at test n xs) (at (n + i))
  in_passing n [] i x e t = absurd (cc e)
  in_passing n (y ∷ xs) zero x e t =
      let same : y ≡ x = cc e in
      let here : n ≡ n + 0 = omega arith in
      in_front (row_where (test y) (at n)) (passing_rows at test (suc n) xs) (at (n + 0)) (where_in (test y) (at n ∷ []) (at (n + 0)) (ap test same ∙ t) (zero, ap (λ k. Some (at k)) here))
  in_passing n (y ∷ xs) (suc i) x e t =
      let same : suc n + i ≡ n + suc i = omega arith in
      in_rest (row_where (test y) (at n)) (passing_rows at test (suc n) xs) (at (n + suc i)) (subst (λ k. Among (passing_rows at test (suc n) xs) (at k)) same (in_passing (suc n) xs i x e t))

  -- the place of a row among them, and its item
  pub record Passes (n : ℕ) (xs : List A) (r : Row) : Type 0 where
    pub place : ℕ
    pub item : A
    pub is_item : slice_get xs place ≡ Some item
    pub passes : test item ≡ true
    pub is : r ≡ at (n + place)

  pub from_passing : (n : ℕ) (xs : List A) (r : Row) → Among (passing_rows at test n xs) r → Passes n xs r
  from_passing n [] r (k, e) = absurd (cc e)
  from_passing n (y ∷ xs) r h = go (in_either (row_where (test y) (at n)) (passing_rows at test (suc n) xs) r h) (from_passing (suc n) xs r)
    where
      go : Among (row_where (test y) (at n)) r ⊎ Among (passing_rows at test (suc n) xs) r → (Among (passing_rows at test (suc n) xs) r → Passes (suc n) xs r) → Passes n (y ∷ xs) r
      go (inl here) rest =
          let w = in_where (test y) (at n ∷ []) r here in
          let none : n ≡ n + 0 = omega arith in
          record { place = 0; item = y; is_item = refl; passes = w.0; is = sym (in_one (at n) r w.1) ∙ ap at none }
      go (inr there) rest =
          let q = rest there in
          let same : suc n + q.place ≡ n + suc q.place = omega arith in
          record { place = suc q.place; item = q.item; is_item = q.is_item; passes = q.passes; is = q.is ∙ ap at same }

-- ---- links

module _ {A : Type 0} (at : ℕ → Row) (names : A → List Row) (xs : List A) where
  pub linked : (n : ℕ) (x : A) (c : Row) → slice_get xs n ≡ Some x → Among (names x) c → Among (links_from at names 0 xs) (keeps (at n) c)
  linked n x c e (i, h) =
      let w = has_link at names 0 xs n i x c e h in
      let here : 0 + n ≡ n = omega arith in
      (w.0, w.1 ∙ ap (λ k. Some (keeps (at k) c)) here)

  pub record Links (l : Link) : Type 0 where
    pub place : ℕ
    pub item : A
    pub row : Row
    pub is_item : slice_get xs place ≡ Some item
    pub named : Among (names item) row
    pub is : l ≡ keeps (at place) row

  pub from_links : (l : Link) → Among (links_from at names 0 xs) l → Links l
  from_links l (k, e) = go (is_link at names 0 xs k l e)
    where
      go : IsOf at names 0 xs l → Links l
      go (n, (i, (x, (c, (f, (g, h)))))) =
          let here : 0 + n ≡ n = omega arith in
          record { place = n; item = x; row = c; is_item = f; named = (i, g); is = h ∙ ap (λ z. keeps (at z) c) here }
