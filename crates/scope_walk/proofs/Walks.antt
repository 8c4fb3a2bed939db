-- The walk from the references outside others to those inside finds what the definition does.
use Rattle.std.proofs.Common.{◌≡◌, ℕ, zero, suc, ◌+◌, ◌-◌, ◌<◌, ◌≤◌, ◌⊎◌, inl, inr, cond, List, [], ◌∷◌, ◌++◌, length, Option, Some, None, refl, sym, ap, ◌∙◌, arith, length-append, get_or, subst, map}
use Rattle.std.specs.Prelude.{slice_get, slice_index, slice_set, count_by, is_some}
use Rattle.std.specs.Option.{option_map}
use Rattle.std.proofs.lemmas.Bool.{cases_eq, cases_lt}
use Rattle.std.proofs.lemmas.List.{length-set}
use Rattle.std.proofs.lemmas.List.Sums.{sum_by-set, count_by-le-length}
use Rattle.std.proofs.lemmas.Option.{slice_get_within, get_or_from_slice_get, slice_get-get_or, slice_get-map}
use Rattle.std.proofs.Math.ListN.{get_or-append}
use Rattle.std.proofs.Math.Seq.{get_or-append_seam}
use Rattle.machine.specs.Data.{Id}
use Rattle.machine.specs.Throw.{on_some}
use Rattle.assemblies.specs.Rows.{Assembly, TypeRefRow, Scope, OfAssembly, Inside, Nowhere}
use Rattle.assemblies.specs.Binding.{in_scope, resolve_ref}
use Rattle.member_keys.specs.declared.keys.ClassId.{ClassId}
use Rattle.member_keys.specs.Seen.{class_seen}
use Rattle.scope_walk.specs.Scopes.{reference_at, outer_row, named_alone, named_inside, parent_of, root_of, inner_of}
use Rattle.scope_walk.proofs.Lists.{none_past}
use Rattle.scope_walk.specs.Walk.{value_at, Waits, pushed_at, IsSound, IsStarted, AreNested, IsWalked}

-- ---- lists

get_set_same : {A : Type 0} (xs : List A) (n : ℕ) (x : A) → n < length xs → slice_get (slice_set xs n x) n ≡ Some x
get_set_same [] n x h = absurd (omega arith)
get_set_same (y ∷ xs) zero x h = refl
get_set_same (y ∷ xs) (suc n) x h = get_set_same xs n x (omega arith)

get_set_other : {A : Type 0} (xs : List A) (n k : ℕ) (x : A) → (k ≡ n → ⊥) → slice_get (slice_set xs n x) k ≡ slice_get xs k
get_set_other [] n k x h = refl
get_set_other (y ∷ xs) zero zero x h = absurd (h refl)
get_set_other (y ∷ xs) zero (suc k) x h = refl
get_set_other (y ∷ xs) (suc n) zero x h = refl
get_set_other (y ∷ xs) (suc n) (suc k) x h = get_set_other xs n k x (λ e. h (ap suc e))

pub index_map : {A B : Type 0} (f : A → B) (xs : List A) (i : ℕ) (x : A) (d : B) → slice_get xs i ≡ Some x → f x ≡ get_or (map f xs) i d
index_map f xs i x d e = sym (get_or_from_slice_get (map f xs) i (f x) d (slice_get-map f xs i ∙ ap (option_map f) e))

pub value_same : (xs : List (Option ClassId)) (n : ℕ) (c : ClassId) → n < length xs → value_at (slice_set xs n (Some c)) n ≡ Some (class_seen c)
value_same xs n c h = ap (λ o. on_some o (option_map class_seen)) (get_set_same xs n (Some c) h)

pub value_other : (xs : List (Option ClassId)) (n k : ℕ) (c : ClassId) → (k ≡ n → ⊥) → value_at (slice_set xs n (Some c)) k ≡ value_at xs k
value_other xs n k c h = ap (λ o. on_some o (option_map class_seen)) (get_set_other xs n k (Some c) h)

-- a row that had nothing is one more that has something
count_set : (xs : List (Option ClassId)) (n : ℕ) (c : ClassId) → slice_get xs n ≡ Some None → count_by is_some (slice_set xs n (Some c)) ≡ count_by is_some xs + 1
count_set xs n c e =
    let within = slice_get_within xs n None e in
    let was = get_or_from_slice_get xs n None None e in
    let sums = sum_by-set (λ (x : Option ClassId). cond {A = ℕ} (is_some x) 1 0) xs n (Some c) None within in
    let none : ◌≡◌ {A = ℕ} (cond (is_some (get_or xs n None)) 1 0) 0 = ap (λ (x : Option ClassId). cond {A = ℕ} (is_some x) 1 0) was in
    omega (arith, sums, none)

-- ---- the steps of the definition

by_parent : Option ℕ → Option Id → (ℕ → Option Id) → Option Id
by_parent None root go = root
by_parent (Some m) root go = go m

module _ (ps : List Assembly) (file : ℕ) where
  abbrev R : ℕ → ℕ → Option Id
  R k n = resolve_ref k ps file n

  abbrev parent : ℕ → Option ℕ
  parent n = parent_of ps file n

  abbrev root : ℕ → Option Id
  root n = root_of ps file n

  abbrev inner : Id → ℕ → Option Id
  inner c n = inner_of ps file c n

  abbrev stepped : (ℕ → Option Id) → ℕ → Option Id
  stepped outer n = by_parent (parent n) (root n) (λ m. on_some (outer m) (λ c. inner c n))

  scoped : (outer : ℕ → Option Id) (r : TypeRefRow) (s : Scope) → in_scope ps file outer r s ≡ by_parent (outer_row s) (in_scope ps file (λ m. None) r s) (λ m. on_some (outer m) (λ c. named_inside ps c r))
  unfolding by_parent
  scoped outer r (OfAssembly n) = refl
  scoped outer r (Inside n) = refl
  scoped outer r Nowhere = refl

  step : (k n : ℕ) → R (suc k) n ≡ stepped (R k) n
  unfolding by_parent
  step k n = assoc (slice_get ps file) ∙ go (reference_at ps file n)
    where
      assoc : (o : Option Assembly) → on_some o (λ p. on_some (slice_get p.refs n) (λ r. in_scope ps file (R k) r r.scope)) ≡ on_some (on_some o (λ p. slice_get p.refs n)) (λ r. in_scope ps file (R k) r r.scope)
      assoc None = refl
      assoc (Some p) = refl

      go : (o : Option TypeRefRow) → on_some o (λ r. in_scope ps file (R k) r r.scope) ≡ by_parent (on_some o (λ r. outer_row r.scope)) (on_some o (named_alone ps file)) (λ m. on_some (R k m) (λ c. on_some o (named_inside ps c)))
      go None = refl
      go (Some r) = scoped (R k) r r.scope

  step_root : (k n : ℕ) → parent n ≡ None → R (suc k) n ≡ root n
  unfolding by_parent
  step_root k n e = step k n ∙ ap (λ p. by_parent p (root n) (λ m. on_some (R k m) (λ c. inner c n))) e

  step_inner : (k n m : ℕ) → parent n ≡ Some m → R (suc k) n ≡ on_some (R k m) (λ c. inner c n)
  unfolding by_parent
  step_inner k n m e = step k n ∙ ap (λ p. by_parent p (root n) (λ m. on_some (R k m) (λ c. inner c n))) e

  -- by one more scope nothing is lost
  more : (k n : ℕ) (c : Id) → R k n ≡ Some c → R (suc k) n ≡ Some c
  more zero n c e = cc e
  more (suc k) n c e = go (λ m d f. more k m d f) (parent n) refl
    where
      inside : ((m : ℕ) (d : Id) → R k m ≡ Some d → R (suc k) m ≡ Some d) → (m : ℕ) (o : Option Id) → R k m ≡ o → on_some o (λ d. inner d n) ≡ Some c → on_some (R (suc k) m) (λ d. inner d n) ≡ Some c
      inside ih m None f g = cc g
      inside ih m (Some d) f g = ap (λ o. on_some o (λ d. inner d n)) (ih m d f) ∙ g

      go : ((m : ℕ) (d : Id) → R k m ≡ Some d → R (suc k) m ≡ Some d) → (p : Option ℕ) → parent n ≡ p → R (suc (suc k)) n ≡ Some c
      go ih None f = step_root (suc k) n f ∙ sym (step_root k n f) ∙ e
      go ih (Some m) f = step_inner (suc k) n m f ∙ inside ih m (R k m) refl (sym (step_inner k n m f) ∙ e)

  upto : (j k n : ℕ) (c : Id) → R k n ≡ Some c → R (j + k) n ≡ Some c
  upto zero k n c e = let same : 0 + k ≡ k = omega arith in ap (λ i. R i n) same ∙ e
  upto (suc j) k n c e = let same : suc j + k ≡ suc (j + k) = omega arith in ap (λ i. R i n) same ∙ more (j + k) n c (upto j k n c e)

  -- a row inside another one names what is inside the type that this one names
  agrees : (k n m : ℕ) (c d : Id) → parent n ≡ Some m → R k n ≡ Some c → R k m ≡ Some d → inner d n ≡ Some c
  agrees zero n m c d f e g = cc e
  agrees (suc k) n m c d f e g = go (R k m) refl (sym (step_inner k n m f) ∙ e)
    where
      go : (o : Option Id) → R k m ≡ o → on_some o (λ d. inner d n) ≡ Some c → inner d n ≡ Some c
      go None h i = cc i
      go (Some d') h i = let same : d ≡ d' = cc (sym g ∙ more k m d' h) in ap (λ x. inner x n) same ∙ i

  -- ---- one more row has its type

  module _ (xs : List (Option ClassId)) (fs : List ℕ) (n : ℕ) (c : ClassId) (is_sound : IsSound ps file xs fs) (fresh : slice_get xs n ≡ Some None) (named : R (suc (length fs)) n ≡ Some (class_seen c)) where
    abbrev xs' : List (Option ClassId)
    xs' = slice_set xs n (Some c)

    abbrev fs' : List ℕ
    fs' = fs ++ n ∷ []

    within : n < length xs
    within = slice_get_within xs n None fresh

    longer : length fs' ≡ suc (length fs)
    longer = omega (arith, length-append fs (n ∷ []))

    wider : (i : ℕ) → i < length fs' → (i < length fs) ⊎ (i ≡ length fs)
    wider i h = go (cases_eq i (length fs))
      where
        go : (i ≡ length fs) ⊎ (i ≡ length fs → ⊥) → (i < length fs) ⊎ (i ≡ length fs)
        go (inl e) = inr e
        go (inr ne) = inl (omega (arith, longer))

    old_place : (i : ℕ) → i < length fs → slice_index fs' i ≡ slice_index fs i
    old_place i h = get_or-append fs (n ∷ []) 0 i h

    new_place : slice_index fs' (length fs) ≡ n
    new_place = get_or-append_seam fs n [] 0

    pub still_waits : (at m : ℕ) → Waits fs at m → Waits fs' at m
    still_waits at m (i, low, inside, is) = (i, low, omega (arith, longer), old_place i inside ∙ is)

    pub now_waits : (at : ℕ) → at ≤ length fs → Waits fs' at n
    now_waits at low = (length fs, low, omega (arith, longer), new_place)

    pub still_sound : IsSound ps file xs' fs'
    still_sound = record {
      counted = omega (arith, longer, count_set xs n c fresh, is_sound.counted);
      inside = λ i h. go i (wider i h);
      sound = λ k d e. named_by k d e (cases_eq k n);
    }
      where
        size : length xs' ≡ length xs
        size = length-set xs n (Some c)

        go : (i : ℕ) → (i < length fs) ⊎ (i ≡ length fs) → slice_index fs' i < length xs'
        go i (inl h) = let same = old_place i h in let old = is_sound.inside i h in omega (arith, size, same, old)
        go i (inr e) = let same : slice_index fs' i ≡ n = ap (slice_index fs') e ∙ new_place in omega (arith, size, same, within)

        named_by : (k : ℕ) (d : Id) → value_at xs' k ≡ Some d → (k ≡ n) ⊎ (k ≡ n → ⊥) → R (length fs') k ≡ Some d
        named_by k d e (inl same) = ap (λ i. R i k) longer ∙ ap (R (suc (length fs))) same ∙ named ∙ sym (value_same xs n c within) ∙ sym (ap (value_at xs') same) ∙ e
        named_by k d e (inr other) = ap (λ i. R i k) longer ∙ more (length fs) k d (is_sound.sound k d (sym (value_other xs n k c other) ∙ e))

    pub still_roots : ((k : ℕ) → parent k ≡ None → value_at xs k ≡ root k) → (m : ℕ) → parent n ≡ Some m → (k : ℕ) → parent k ≡ None → value_at xs' k ≡ root k
    still_roots roots m has k e = value_other xs n k c (λ same. cc (sym has ∙ sym (ap parent same) ∙ e)) ∙ roots k e

    -- a row inside another one, whose type is known
    pub still_closed : (at m : ℕ) (d : Id) → at ≤ length fs → parent n ≡ Some m → value_at xs m ≡ Some d → inner d n ≡ Some (class_seen c) → ((k o : ℕ) (e : Id) → parent k ≡ Some o → value_at xs o ≡ Some e → (value_at xs k ≡ inner e k) ⊎ Waits fs at o) → (k o : ℕ) (e : Id) → parent k ≡ Some o → value_at xs' o ≡ Some e → (value_at xs' k ≡ inner e k) ⊎ Waits fs' at o
    still_closed at m d low has outer names closed k o e p v = go (cases_eq o n) (cases_eq k n)
      where
        go : (o ≡ n) ⊎ (o ≡ n → ⊥) → (k ≡ n) ⊎ (k ≡ n → ⊥) → (value_at xs' k ≡ inner e k) ⊎ Waits fs' at o
        go (inl same) either = inr (let w = now_waits at low in (w.0, w.1, w.2, w.3 ∙ sym same))
        go (inr other) (inl same) =
            let o_is : o ≡ m = cc (sym p ∙ ap parent same ∙ has) in
            let e_is : e ≡ d = cc (sym v ∙ value_other xs n o c other ∙ ap (value_at xs) o_is ∙ outer) in
            inl (ap (value_at xs') same ∙ value_same xs n c within ∙ sym names ∙ ap (λ x. inner x n) (sym e_is) ∙ sym (ap (inner e) same))
        go (inr other) (inr apart) = with_old (closed k o e p (sym (value_other xs n o c other) ∙ v))
          where
            with_old : (value_at xs k ≡ inner e k) ⊎ Waits fs at o → (value_at xs' k ≡ inner e k) ⊎ Waits fs' at o
            with_old (inl same) = inl (value_other xs n k c apart ∙ same)
            with_old (inr w) = inr (still_waits at o w)

  -- ---- the first pass

  nothing_yet : (xs : List (Option ClassId)) (n : ℕ) → n < length xs → value_at xs n ≡ None → slice_get xs n ≡ Some None
  nothing_yet xs n within none = there ∙ ap Some (empty (get_or xs n None) (sym (ap (λ o. on_some o (option_map class_seen)) there) ∙ none))
    where
      there : slice_get xs n ≡ Some (get_or xs n None)
      there = slice_get-get_or xs n None within

      empty : (o : Option ClassId) → option_map class_seen o ≡ None → o ≡ None
      empty None e = refl
      empty (Some c) e = cc e

  below_next : (k n : ℕ) → k < n + 1 → (k ≡ n → ⊥) → k < n
  below_next k n h apart = omega arith

  pub skipped : (xs : List (Option ClassId)) (fs : List ℕ) (n : ℕ) → (parent n ≡ None → root n ≡ None) → IsStarted ps file xs fs n → IsStarted ps file xs fs (n + 1)
  skipped xs fs n names started = record {
    is_sound = started.is_sound;
    waits = started.waits;
    roots = λ k below p. at_row k below p (cases_eq k n);
    unset = λ k from. started.unset k (omega arith);
  }
    where
      at_row : (k : ℕ) → k < n + 1 → parent k ≡ None → (k ≡ n) ⊎ (k ≡ n → ⊥) → value_at xs k ≡ root k
      at_row k below p (inl same) = ap (value_at xs) same ∙ started.unset n (omega arith) ∙ sym (names (ap parent (sym same) ∙ p)) ∙ sym (ap root same)
      at_row k below p (inr apart) = started.roots k (below_next k n below apart) p

  pub settled : (xs : List (Option ClassId)) (fs : List ℕ) (n : ℕ) (c : ClassId) → n < length xs → parent n ≡ None → root n ≡ Some (class_seen c) → IsStarted ps file xs fs n → IsStarted ps file (slice_set xs n (Some c)) (fs ++ n ∷ []) (n + 1)
  settled xs fs n c within p names started = record {
    is_sound = still_sound xs fs n c started.is_sound fresh named;
    waits = λ k d v. at_value k d v (cases_eq k n);
    roots = λ k below q. at_row k below q (cases_eq k n);
    unset = λ k from. let apart : k ≡ n → ⊥ = λ e. omega arith in value_other xs n k c apart ∙ started.unset k (omega arith);
  }
    where
      fresh : slice_get xs n ≡ Some None
      fresh = nothing_yet xs n within (started.unset n (omega arith))

      named : R (suc (length fs)) n ≡ Some (class_seen c)
      named = step_root (length fs) n p ∙ names

      at_value : (k : ℕ) (d : Id) → value_at (slice_set xs n (Some c)) k ≡ Some d → (k ≡ n) ⊎ (k ≡ n → ⊥) → Waits (fs ++ n ∷ []) 0 k
      at_value k d v (inl same) = let w = now_waits xs fs n c started.is_sound fresh named 0 (omega arith) in (w.0, w.1, w.2, w.3 ∙ sym same)
      at_value k d v (inr apart) = still_waits xs fs n c started.is_sound fresh named 0 k (started.waits k d (sym (value_other xs n k c apart) ∙ v))

      at_row : (k : ℕ) → k < n + 1 → parent k ≡ None → (k ≡ n) ⊎ (k ≡ n → ⊥) → value_at (slice_set xs n (Some c)) k ≡ root k
      at_row k below q (inl same) = ap (value_at (slice_set xs n (Some c))) same ∙ value_same xs n c within ∙ sym names ∙ sym (ap root same)
      at_row k below q (inr apart) = value_other xs n k c apart ∙ started.roots k (below_next k n below apart) q

  pub not_nested : (nested : List (List ℕ)) (n : ℕ) → parent n ≡ None → AreNested ps file nested n → AreNested ps file nested (n + 1)
  not_nested nested n p are = record {
    all = λ k m rows below q there. at_row k m rows below q there (cases_eq k n);
    only = are.only;
  }
    where
      at_row : (k m : ℕ) (rows : List ℕ) → k < n + 1 → parent k ≡ Some m → slice_get nested m ≡ Some rows → (k ≡ n) ⊎ (k ≡ n → ⊥) → Waits rows 0 k
      at_row k m rows below q there (inl same) = cc (sym q ∙ ap parent same ∙ p)
      at_row k m rows below q there (inr apart) = are.all k m rows (below_next k n below apart) q there

  waits_longer : (rows : List ℕ) (n k : ℕ) → Waits rows 0 k → Waits (rows ++ n ∷ []) 0 k
  waits_longer rows n k (i, low, inside, is) = (i, low, omega (arith, length-append rows (n ∷ [])), get_or-append rows (n ∷ []) 0 i inside ∙ is)

  waits_last : (rows : List ℕ) (n : ℕ) → Waits (rows ++ n ∷ []) 0 n
  waits_last rows n = (length rows, omega arith, omega (arith, length-append rows (n ∷ [])), get_or-append_seam rows n [] 0)

  pub nested_in : (nested : List (List ℕ)) (n m : ℕ) → parent n ≡ Some m → AreNested ps file nested n → AreNested ps file (pushed_at nested m n) (n + 1)
  nested_in nested n m p are = record {
    all = λ k o rows below q there. at_row k o rows below q there (cases_eq o m) (cases_eq k n);
    only = λ o rows i there inside. at_place o rows i there inside (cases_eq o m);
  }
    where
      -- where the changed list is there, the old one was
      within : (rows : List ℕ) → slice_get (pushed_at nested m n) m ≡ Some rows → m < length nested
      within rows there = let inside = slice_get_within (pushed_at nested m n) m rows there in omega (arith, inside, length-set nested m ((get_or nested m []) ++ n ∷ []))

      changed : (rows : List ℕ) → slice_get (pushed_at nested m n) m ≡ Some rows → rows ≡ (get_or nested m []) ++ n ∷ []
      changed rows there = cc (sym there ∙ get_set_same nested m ((get_or nested m []) ++ n ∷ []) (within rows there))

      at_row : (k o : ℕ) (rows : List ℕ) → k < n + 1 → parent k ≡ Some o → slice_get (pushed_at nested m n) o ≡ Some rows → (o ≡ m) ⊎ (o ≡ m → ⊥) → (k ≡ n) ⊎ (k ≡ n → ⊥) → Waits rows 0 k
      at_row k o rows below q there (inl same) (inl is) =
          let at_m : slice_get (pushed_at nested m n) m ≡ Some rows = ap (slice_get (pushed_at nested m n)) (sym same) ∙ there in
          let P : List ℕ → ℕ → Type 0 = λ xs k. Waits xs 0 k in
          subst (λ x. P rows x) (sym is) (subst (λ xs. P xs n) (sym (changed rows at_m)) (waits_last (get_or nested m []) n))
      at_row k o rows below q there (inl same) (inr apart) =
          let at_m : slice_get (pushed_at nested m n) m ≡ Some rows = ap (slice_get (pushed_at nested m n)) (sym same) ∙ there in
          let P : List ℕ → ℕ → Type 0 = λ xs k. Waits xs 0 k in
          subst (λ xs. P xs k) (sym (changed rows at_m))
          (waits_longer (get_or nested m []) n k (are.all k m (get_or nested m []) (below_next k n below apart) (q ∙ ap Some same) (slice_get-get_or nested m [] (within rows at_m))))
      at_row k o rows below q there (inr other) (inl is) = absurd (other (cc (sym q ∙ ap parent is ∙ p)))
      at_row k o rows below q there (inr other) (inr apart) = are.all k o rows (below_next k n below apart) q (sym (get_set_other nested m o ((get_or nested m []) ++ n ∷ []) other) ∙ there)

      at_place : (o : ℕ) (rows : List ℕ) (i : ℕ) → slice_get (pushed_at nested m n) o ≡ Some rows → i < length rows → (o ≡ m) ⊎ (o ≡ m → ⊥) → parent (slice_index rows i) ≡ Some o
      at_place o rows i there inside (inr other) = are.only o rows i (sym (get_set_other nested m o ((get_or nested m []) ++ n ∷ []) other) ∙ there) inside
      at_place o rows i there inside (inl same) =
          let at_m : slice_get (pushed_at nested m n) m ≡ Some rows = ap (slice_get (pushed_at nested m n)) (sym same) ∙ there in
          ap (λ xs. parent (slice_index xs i)) (changed rows at_m) ∙ in_longer at_m (cases_eq i (length (get_or nested m []))) ∙ ap Some (sym same)
        where
          in_longer : slice_get (pushed_at nested m n) m ≡ Some rows → (i ≡ length (get_or nested m [])) ⊎ (i ≡ length (get_or nested m []) → ⊥) → parent (slice_index ((get_or nested m []) ++ n ∷ []) i) ≡ Some m
          in_longer at_m (inl last) = ap (λ x. parent (slice_index ((get_or nested m []) ++ n ∷ []) x)) last ∙ ap parent (get_or-append_seam (get_or nested m []) n [] 0) ∙ p
          in_longer at_m (inr before) =
              let size = ap length (changed rows at_m) in
              let low : i < length (get_or nested m []) = omega (arith, size, length-append (get_or nested m []) (n ∷ [])) in
              ap parent (get_or-append (get_or nested m []) (n ∷ []) 0 i low) ∙ are.only m (get_or nested m []) i (slice_get-get_or nested m [] (within rows at_m)) low

  -- ---- the rows inside a row that was found

  module _ (xs : List (Option ClassId)) (fs : List ℕ) (at m : ℕ) (c : ClassId) (walked : IsWalked ps file xs fs at) (low : at < length fs) (place : slice_index fs at ≡ m) (outer : value_at xs m ≡ Some (class_seen c)) (whole : (k : ℕ) → length xs ≤ k → reference_at ps file k ≡ None) where
    named_outer : R (length fs) m ≡ Some (class_seen c)
    named_outer = walked.is_sound.sound m (class_seen c) outer

    pub visit_settles : (n : ℕ) (e : ClassId) → parent n ≡ Some m → slice_get xs n ≡ Some None → inner (class_seen c) n ≡ Some (class_seen e) → IsWalked ps file (slice_set xs n (Some e)) (fs ++ n ∷ []) at
    visit_settles n e p fresh names = record {
      is_sound = still_sound xs fs n e walked.is_sound fresh named;
      roots = still_roots xs fs n e walked.is_sound fresh named walked.roots m p;
      closed = still_closed xs fs n e walked.is_sound fresh named at m (class_seen c) (omega arith) p outer names walked.closed;
    }
      where
        named : R (suc (length fs)) n ≡ Some (class_seen e)
        named = step_inner (length fs) n m p ∙ ap (λ o. on_some o (λ d. inner d n)) named_outer ∙ names

    -- a row that keeps what it has has what it names there
    pub visit_keeps : (n : ℕ) → parent n ≡ Some m → (slice_get xs n ≡ Some None → inner (class_seen c) n ≡ None) → value_at xs n ≡ inner (class_seen c) n
    visit_keeps n p none = go (slice_get xs n) refl
      where
        go : (o : Option (Option ClassId)) → slice_get xs n ≡ o → value_at xs n ≡ inner (class_seen c) n
        go None e = let absent = whole n (none_past xs n e) in cc (sym p ∙ ap (λ o. on_some o (λ r. outer_row r.scope)) absent)
        go (Some None) e = ap (λ o. on_some o (option_map class_seen)) e ∙ sym (none e)
        go (Some (Some d)) e =
            let has : value_at xs n ≡ Some (class_seen d) = ap (λ o. on_some o (option_map class_seen)) e in
            has ∙ sym (agrees (length fs) n m (class_seen d) (class_seen c) p (walked.is_sound.sound n (class_seen d) has) named_outer)

    -- once all rows inside it have theirs, it needn't wait
    pub visited : (rows : List ℕ) → ((n : ℕ) → parent n ≡ Some m → Waits rows 0 n) → ((i : ℕ) → i < length rows → value_at xs (slice_index rows i) ≡ inner (class_seen c) (slice_index rows i)) → IsWalked ps file xs fs (at + 1)
    visited rows all handled = record { is_sound = walked.is_sound; roots = walked.roots; closed = λ k o e p v. go k o e p v (walked.closed k o e p v) }
      where
        go : (k o : ℕ) (e : Id) → parent k ≡ Some o → value_at xs o ≡ Some e → (value_at xs k ≡ inner e k) ⊎ Waits fs at o → (value_at xs k ≡ inner e k) ⊎ Waits fs (at + 1) o
        go k o e p v (inl same) = inl same
        go k o e p v (inr (i, from, inside, is)) = here (cases_eq i at)
          where
            here : (i ≡ at) ⊎ (i ≡ at → ⊥) → (value_at xs k ≡ inner e k) ⊎ Waits fs (at + 1) o
            here (inr later) = inr (i, omega arith, inside, is)
            here (inl now) =
                let o_is : o ≡ m = sym is ∙ ap (slice_index fs) now ∙ place in
                let e_is : e ≡ class_seen c = cc (sym v ∙ ap (value_at xs) o_is ∙ outer) in
                let w = all k (p ∙ ap Some o_is) in
                inl (ap (value_at xs) (sym w.3) ∙ handled w.0 w.2 ∙ ap (λ x. inner (class_seen c) x) w.3 ∙ ap (λ d. inner d k) (sym e_is))

  -- a row that was found without a type waits for nothing
  pub passed_by : (xs : List (Option ClassId)) (fs : List ℕ) (at m : ℕ) → slice_index fs at ≡ m → value_at xs m ≡ None → IsWalked ps file xs fs at → IsWalked ps file xs fs (at + 1)
  passed_by xs fs at m place none walked = record { is_sound = walked.is_sound; roots = walked.roots; closed = λ k o e p v. go k o e p v (walked.closed k o e p v) }
    where
      go : (k o : ℕ) (e : Id) → parent k ≡ Some o → value_at xs o ≡ Some e → (value_at xs k ≡ inner e k) ⊎ Waits fs at o → (value_at xs k ≡ inner e k) ⊎ Waits fs (at + 1) o
      go k o e p v (inl same) = inl same
      go k o e p v (inr (i, from, inside, is)) = here (cases_eq i at)
        where
          here : (i ≡ at) ⊎ (i ≡ at → ⊥) → (value_at xs k ≡ inner e k) ⊎ Waits fs (at + 1) o
          here (inr later) = inr (i, omega arith, inside, is)
          here (inl now) = let o_is : o ≡ m = sym is ∙ ap (slice_index fs) now ∙ place in cc (sym v ∙ ap (value_at xs) o_is ∙ none)

  -- after the first pass the walk begins
  pub begun : (xs : List (Option ClassId)) (fs : List ℕ) → ((k : ℕ) → length xs ≤ k → reference_at ps file k ≡ None) → IsStarted ps file xs fs (length xs) → IsWalked ps file xs fs 0
  begun xs fs whole started = record { is_sound = started.is_sound; roots = λ n p. at_row n p (cases_le n); closed = λ n m c p v. inr (started.waits m c v) }
    where
      cases_le : (n : ℕ) → (n < length xs) ⊎ (length xs ≤ n)
      cases_le n = cases_lt n (length xs)

      at_row : (n : ℕ) → parent n ≡ None → (n < length xs) ⊎ (length xs ≤ n) → value_at xs n ≡ root n
      at_row n p (inl below) = started.roots n below p
      at_row n p (inr past) = started.unset n past ∙ sym (ap (λ o. on_some o (named_alone ps file)) (whole n past))

  -- ---- the end

  module _ (xs : List (Option ClassId)) (fs : List ℕ) (at : ℕ) (walked : IsWalked ps file xs fs at) (over : length fs ≤ at) where
    none_waits : (m : ℕ) → Waits fs at m → ⊥
    none_waits m (i, low, inside, is) = omega arith

    complete : (k n : ℕ) (c : Id) → R k n ≡ Some c → value_at xs n ≡ Some c
    complete zero n c e = cc e
    complete (suc k) n c e = go (λ m d f. complete k m d f) (parent n) refl
      where
        inside : ((m : ℕ) (d : Id) → R k m ≡ Some d → value_at xs m ≡ Some d) → (m : ℕ) → parent n ≡ Some m → (o : Option Id) → R k m ≡ o → on_some o (λ d. inner d n) ≡ Some c → value_at xs n ≡ Some c
        inside ih m p None f g = cc g
        inside ih m p (Some d) f g = by (walked.closed n m d p (ih m d f))
          where
            by : (value_at xs n ≡ inner d n) ⊎ Waits fs at m → value_at xs n ≡ Some c
            by (inl same) = same ∙ g
            by (inr w) = absurd (none_waits m w)

        go : ((m : ℕ) (d : Id) → R k m ≡ Some d → value_at xs m ≡ Some d) → (p : Option ℕ) → parent n ≡ p → value_at xs n ≡ Some c
        go ih None p = walked.roots n p ∙ sym (step_root k n p) ∙ e
        go ih (Some m) p = inside ih m p (R k m) refl (sym (step_inner k n m p) ∙ e)

    pub finished : (most n : ℕ) → length xs ≤ most → value_at xs n ≡ R most n
    finished most n few = go (value_at xs n) (R most n) refl refl
      where
        enough : length fs ≤ most
        enough =
            let some : count_by is_some xs ≤ length xs = count_by-le-length is_some xs in
            let counted : length fs ≡ count_by is_some xs = walked.is_sound.counted in
            omega arith

        go : (a b : Option Id) → value_at xs n ≡ a → R most n ≡ b → a ≡ b
        go None None e f = refl
        go None (Some d) e f = cc (sym e ∙ complete most n d f)
        go (Some c) b e f =
            let same : (most - length fs) + length fs ≡ most = omega (arith, enough) in
            sym (upto (most - length fs) (length fs) n c (walked.is_sound.sound n c e)) ∙ ap (λ i. R i n) same ∙ f
