-- What is reached in one step more, and when nothing more is reached.
use Rattle.std.proofs.Common.{◌≡◌, ◌⊎◌, inl, inr, ⊎_elim, ℕ, zero, suc, ◌+◌, ◌-◌, ◌<◌, ◌≤◌, Bool, true, ◌||◌, List, [], ◌∷◌, ◌++◌, length, take, drop, refl, sym, ap, ◌∙◌, arith, subst, append_assoc, length-append, length-drop, get_or, Some}
use Rattle.std.specs.Prelude.{slice_get}
use Rattle.std.specs.List.{list_any}
use Rattle.std.specs.Cmp.{both_ways}
use Rattle.std.proofs.lemmas.Bool.{or_cases}
use Rattle.std.proofs.Math.Bool.{or-false}
use Rattle.std.proofs.lemmas.List.{append-nil, get_or-drop, take_all, take-append-drop}
use Rattle.std.proofs.lemmas.List.Folds.{list_any-append}
use Rattle.std.proofs.Math.Seq.{take-append_seam, take-length, take-suc}
use Rattle.machine.specs.Data.{Id, id_eq}
use Rattle.alike.proofs.Members.{id_same}
use Rattle.classes.specs.Queries.{reaches}
use Rattle.class_rules.proofs.Ways.{or_left, or_right, any_at, at_any}
use Rattle.member_keys.specs.declared.keys.ClassId.{ClassId}
use Rattle.member_keys.specs.Seen.{class_seen}
use Rattle.class_reach.specs.Found.{among}
use Rattle.class_reach.specs.Levels.{all_nexts, AreReached}
use Rattle.class_reach.proofs.FoundLaws.{id_here, id_turned, among_both}

module _ (next : Id → List Id) where
  -- ---- a step more

  any_weaker : (f g : Id → Bool) → ((x : Id) → f x ≡ true → g x ≡ true) → (xs : List Id) → list_any f xs ≡ true → list_any g xs ≡ true
  any_weaker f g weaker xs e = let r = any_at f xs e in at_any g xs r.0 r.1 r.2 (weaker r.1 r.3)

  reach_self : (n : ℕ) (a b : Id) → id_eq a b ≡ true → reaches n next a b ≡ true
  reach_self zero a b e = e
  reach_self (suc n) a b e = or_left (id_eq a b) (list_any (λ c. reaches n next c b) (next a)) e

  reach_more : (n : ℕ) (a b : Id) → reaches n next a b ≡ true → reaches (suc n) next a b ≡ true
  reach_more zero a b e = reach_self 1 a b e
  reach_more (suc n) a b e =
      ⊎_elim
      (λ here. reach_self (suc (suc n)) a b here)
      (λ on. or_right (id_eq a b) (list_any (λ c. reaches (suc n) next c b) (next a)) (any_weaker (λ c. reaches n next c b) (λ c. reaches (suc n) next c b) (λ c. reach_more n c b) (next a) on))
      (or_cases (id_eq a b) (list_any (λ c. reaches n next c b) (next a)) e)

  reach_most : (k n : ℕ) (a b : Id) → reaches n next a b ≡ true → reaches (k + n) next a b ≡ true
  reach_most zero n a b e = let same : n ≡ 0 + n = omega arith in subst (λ m. reaches m next a b ≡ true) same e
  reach_most (suc k) n a b e = let same : suc (k + n) ≡ suc k + n = omega arith in subst (λ m. reaches m next a b ≡ true) same (reach_more (k + n) a b (reach_most k n a b e))

  reach_then : (n : ℕ) (a b d : Id) → reaches n next a b ≡ true → list_any (id_eq d) (next b) ≡ true → reaches (suc n) next a d ≡ true
  reach_then zero a b d e f =
      or_right (id_eq a d) (list_any (λ c. id_eq c d) (next a))
      (any_weaker (id_eq d) (λ c. id_eq c d) (λ c t. id_turned c d ∙ t) (next a) (subst (λ z. list_any (id_eq d) (next z) ≡ true) (sym (id_same a b e)) f))
  reach_then (suc n) a b d e f =
      ⊎_elim
      (λ here.
      or_right (id_eq a d) (list_any (λ c. reaches (suc n) next c d) (next a))
      (any_weaker (id_eq d) (λ c. reaches (suc n) next c d) (λ c t. reach_self (suc n) c d (id_turned c d ∙ t)) (next a) (subst (λ z. list_any (id_eq d) (next z) ≡ true) (sym (id_same a b here)) f)))
      (λ on. or_right (id_eq a d) (list_any (λ c. reaches (suc n) next c d) (next a)) (any_weaker (λ c. reaches n next c b) (λ c. reaches (suc n) next c d) (λ c t. reach_then n c b d t f) (next a) on))
      (or_cases (id_eq a b) (list_any (λ c. reaches n next c b) (next a)) e)

  abbrev Last : ℕ → Id → Id → Type 0
  Last n a d = (reaches n next a d ≡ true) ⊎ ((c : Id) × (reaches n next a c ≡ true) × (list_any (id_eq d) (next c) ≡ true))

  reach_last : (n : ℕ) (a d : Id) → reaches (suc n) next a d ≡ true → Last n a d
  reach_last zero a d e =
      ⊎_elim (λ here. inl here)
      (λ on. inr (a, id_here a, any_weaker (λ c. id_eq c d) (id_eq d) (λ c t. id_turned d c ∙ t) (next a) on))
      (or_cases (id_eq a d) (list_any (λ c. id_eq c d) (next a)) e)
  reach_last (suc n) a d e =
      ⊎_elim (λ here. inl (reach_self (suc n) a d here))
      (λ on. let r = any_at (λ c. reaches (suc n) next c d) (next a) on in by r.0 r.1 r.2 (reach_last n r.1 d r.3))
      (or_cases (id_eq a d) (list_any (λ c. reaches (suc n) next c d) (next a)) e)
    where
      by : (i : ℕ) (c : Id) → slice_get (next a) i ≡ Some c → Last n c d → Last (suc n) a d
      by i c at (inl e) = inl (or_right (id_eq a d) (list_any (λ z. reaches n next z d) (next a)) (at_any (λ z. reaches n next z d) (next a) i c at e))
      by i c at (inr (b, e, f)) = inr (b, or_right (id_eq a b) (list_any (λ z. reaches n next z b) (next a)) (at_any (λ z. reaches n next z b) (next a) i c at e), f)

  -- from a class of a closed set only those of the set are reached
  reach_closed : (inside : Id → Bool) → ((c d : Id) → inside c ≡ true → list_any (id_eq d) (next c) ≡ true → inside d ≡ true) → (n : ℕ) (a d : Id) → inside a ≡ true → reaches n next a d ≡ true → inside d ≡ true
  reach_closed inside closed zero a d i e = subst (λ z. inside z ≡ true) (id_same a d e) i
  reach_closed inside closed (suc n) a d i e =
      ⊎_elim (λ here. subst (λ z. inside z ≡ true) (id_same a d here) i)
      (λ on. let r = any_at (λ c. reaches n next c d) (next a) on in reach_closed inside closed n r.1 d (closed a r.1 i (at_any (id_eq r.1) (next a) r.0 r.1 r.2 (id_here r.1))) r.3)
      (or_cases (id_eq a d) (list_any (λ c. reaches n next c d) (next a)) e)

module _ (next : Id → List Id) where
  -- ---- what the found classes lead to

  pub nexts_both : (xs ys : List ClassId) → all_nexts next (xs ++ ys) ≡ all_nexts next xs ++ all_nexts next ys
  nexts_both [] ys = refl
  nexts_both (x ∷ xs) ys = ap (λ zs. next (class_seen x) ++ zs) (nexts_both xs ys) ∙ sym (append_assoc (next (class_seen x)) (all_nexts next xs) (all_nexts next ys))

  any_next : (d c : Id) (xs : List ClassId) → among c xs ≡ true → list_any (id_eq d) (next c) ≡ true → list_any (id_eq d) (all_nexts next xs) ≡ true
  any_next d c [] e f = absurd (cc e)
  any_next d c (x ∷ xs) e f =
      list_any-append (id_eq d) (next (class_seen x)) (all_nexts next xs)
      ∙ ⊎_elim
      (λ here. or_left (list_any (id_eq d) (next (class_seen x))) (list_any (id_eq d) (all_nexts next xs)) (subst (λ z. list_any (id_eq d) (next z) ≡ true) (id_same c (class_seen x) here) f))
      (λ on. or_right (list_any (id_eq d) (next (class_seen x))) (list_any (id_eq d) (all_nexts next xs)) (any_next d c xs on f))
      (or_cases (id_eq c (class_seen x)) (among c xs) e)

  whose_next : (d : Id) (xs : List ClassId) → list_any (id_eq d) (all_nexts next xs) ≡ true → (c : Id) × (among c xs ≡ true) × (list_any (id_eq d) (next c) ≡ true)
  whose_next d [] e = absurd (cc e)
  whose_next d (x ∷ xs) e =
      ⊎_elim
      (λ here. (class_seen x, or_left (id_eq (class_seen x) (class_seen x)) (among (class_seen x) xs) (id_here (class_seen x)), here))
      (λ on. let r = whose_next d xs on in (r.0, or_right (id_eq r.0 (class_seen x)) (among r.0 xs) r.1, r.2))
      (or_cases (list_any (id_eq d) (next (class_seen x))) (list_any (id_eq d) (all_nexts next xs)) (sym (list_any-append (id_eq d) (next (class_seen x)) (all_nexts next xs)) ∙ e))

  -- those before a place, and those behind it
  split : (d : Id) (start : ℕ) (xs : List ClassId) → list_any (id_eq d) (all_nexts next xs) ≡ (list_any (id_eq d) (all_nexts next (take start xs)) || list_any (id_eq d) (all_nexts next (drop start xs)))
  split d start xs =
      ap (λ zs. list_any (id_eq d) (all_nexts next zs)) (sym (take-append-drop start xs))
      ∙ ap (list_any (id_eq d)) (nexts_both (take start xs) (drop start xs))
      ∙ list_any-append (id_eq d) (all_nexts next (take start xs)) (all_nexts next (drop start xs))

  among_dropped : (d : Id) (start : ℕ) (xs : List ClassId) → among d (drop start xs) ≡ true → among d xs ≡ true
  among_dropped d start xs e =
      ap (among d) (sym (take-append-drop start xs)) ∙ among_both d (take start xs) (drop start xs) ∙ or_right (among d (take start xs)) (among d (drop start xs)) e

  module _ (from : Id) where
    pub reached_first : (c : ClassId) → class_seen c ≡ from → AreReached next from 0 0 (c ∷ [])
    reached_first c e =
        record {
          reached = λ d. or-false (id_eq d (class_seen c)) ∙ id_turned d (class_seen c) ∙ ap (λ z. id_eq z d) e;
          behind = λ d h. absurd (cc h);
          within = omega arith;
        }

    pub reached_next : (steps start : ℕ) (items more all : List ClassId) → AreReached next from steps start items → all ≡ items ++ more → ((d : Id) → among d all ≡ (among d items || list_any (id_eq d) (all_nexts next (drop start items)))) → AreReached next from (suc steps) (length items) all
    reached_next steps start items more all are whole has =
        record {
          reached = λ d. both_ways (among d all) (reaches (suc steps) next from d) (up d) (down d);
          behind = λ d h. closed d (subst (λ xs. list_any (id_eq d) (all_nexts next xs) ≡ true) (ap (take (length items)) whole ∙ take-append_seam items more) h);
          within = omega (arith, ap length whole, length-append items more);
        }
      where
        kept : (d : Id) → among d items ≡ true → among d all ≡ true
        kept d e = has d ∙ or_left (among d items) _ e

        closed : (d : Id) → list_any (id_eq d) (all_nexts next items) ≡ true → among d all ≡ true
        closed d e =
            ⊎_elim
            (λ before. kept d (are.behind d before))
            (λ behind. has d ∙ or_right (among d items) (list_any (id_eq d) (all_nexts next (drop start items))) behind)
            (or_cases (list_any (id_eq d) (all_nexts next (take start items))) (list_any (id_eq d) (all_nexts next (drop start items))) (sym (split d start items) ∙ e))

        up : (d : Id) → among d all ≡ true → reaches (suc steps) next from d ≡ true
        up d e =
            ⊎_elim
            (λ before. reach_more next steps from d (sym (are.reached d) ∙ before))
            (λ behind.
            let r = whose_next d (drop start items) behind in
            reach_then next steps from r.0 d (sym (are.reached r.0) ∙ among_dropped r.0 start items r.1) r.2)
            (or_cases (among d items) (list_any (id_eq d) (all_nexts next (drop start items))) (sym (has d) ∙ e))

        down : (d : Id) → reaches (suc steps) next from d ≡ true → among d all ≡ true
        down d e =
            ⊎_elim
            (λ before. kept d (are.reached d ∙ before))
            (λ (c, e, f). closed d (any_next d c items (are.reached c ∙ e) f))
            (reach_last next steps from d e)

    -- where each found class was looked at, no step more finds another one
    pub reached_all : (steps most : ℕ) (items : List ClassId) → AreReached next from steps (length items) items → steps ≤ most → (d : Id) → among d items ≡ reaches most next from d
    reached_all steps most items are low d =
        both_ways (among d items) (reaches most next from d)
        (λ e. let same : (most - steps) + steps ≡ most = omega (arith, low) in subst (λ n. reaches n next from d ≡ true) same (reach_most next (most - steps) steps from d (sym (are.reached d) ∙ e)))
        (λ e. reach_closed next (λ c. among c items) closed most from d (are.reached from ∙ reach_self next steps from from (id_here from)) e)
      where
        closed : (c d : Id) → among c items ≡ true → list_any (id_eq d) (next c) ≡ true → among d items ≡ true
        closed c d e f = are.behind d (subst (λ xs. list_any (id_eq d) (all_nexts next xs) ≡ true) (sym (take-length items)) (any_next d c items e f))

  -- the classes from a place on, with one more
  pub one_more_level : (xs : List ClassId) (start place : ℕ) (d : ClassId) → start ≤ place → place < length xs → all_nexts next (take (place + 1 - start) (drop start xs)) ≡ all_nexts next (take (place - start) (drop start xs)) ++ next (class_seen (get_or xs place d))
  one_more_level xs start place d low inside =
      let more : place + 1 - start ≡ suc (place - start) = omega (arith, low) in
      let at : start + (place - start) ≡ place = omega (arith, low) in
      let few : place - start < length (drop start xs) = omega (arith, low, inside, length-drop start xs) in
      ap (λ n. all_nexts next (take n (drop start xs))) more
      ∙ ap (all_nexts next) (take-suc (drop start xs) (place - start) d few)
      ∙ nexts_both (take (place - start) (drop start xs)) (get_or (drop start xs) (place - start) d ∷ [])
      ∙ ap (λ zs. all_nexts next (take (place - start) (drop start xs)) ++ zs) (append-nil (next (class_seen (get_or (drop start xs) (place - start) d))))
      ∙ ap (λ x. all_nexts next (take (place - start) (drop start xs)) ++ next (class_seen x)) (get_or-drop start xs (place - start) d ∙ ap (λ n. get_or xs n d) at)

pub first_front : (xs ys all : List ClassId) (c : ClassId) → all ≡ xs ++ ys → slice_get xs 0 ≡ Some c → slice_get all 0 ≡ Some c
first_front [] ys all c e h = absurd (cc h)
first_front (x ∷ xs) ys all c e h = ap (λ zs. slice_get zs 0) e ∙ h

pub whole_level : (xs : List ClassId) (start end : ℕ) → end ≡ length xs → take (end - start) (drop start xs) ≡ drop start xs
whole_level xs start end e = take_all (end - start) (drop start xs) (omega (arith, e, length-drop start xs))
