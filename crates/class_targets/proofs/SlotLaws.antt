-- A test of all that a class reaches, and the chain of a class by that of its superclass.
use Rattle.std.proofs.Common.{◌≡◌, ℕ, zero, suc, ◌⊎◌, inl, inr, Bool, true, List, [], ◌∷◌, Option, Some, None, refl, sym, ap, ◌∙◌, subst}
use Rattle.std.specs.Prelude.{slice_get, unwrap_or}
use Rattle.std.specs.Cmp.{both_ways}
use Rattle.std.specs.List.{list_all, list_any}
use Rattle.std.specs.Option.{option_map}
use Rattle.std.proofs.lemmas.Bool.{and_parts, and_from, or_cases}
use Rattle.machine.specs.Data.{Id, id_eq, ClassOf}
use Rattle.machine_typed.proofs.Types.{id_same, type_here}
use Rattle.classes.specs.Classes.{Classes}
use Rattle.classes.specs.Queries.{reaches, ends, listed, above, superclass_of, chain_within}
use Rattle.class_rules.specs.Rules.{all_reached}
use Rattle.class_rules.proofs.Ways.{or_left, or_right, any_at, at_any, all_at}

-- ---- a test of all that a class reaches is one of a list of what it reaches

module _ (next : Id → List Id) (test : Id → Bool) where
  here : (a : Id) → id_eq a a ≡ true
  here a = type_here (ClassOf a)

  tested : (n : ℕ) (a d : Id) → all_reached n next test a ≡ true → reaches n next a d ≡ true → test d ≡ true
  tested zero a d e r = subst (λ z. test z ≡ true) (id_same a d r) e
  tested (suc n) a d e r =
      let both = and_parts (test a) (list_all (all_reached n next test) (next a)) e in
      go both.0 both.1 (or_cases (id_eq a d) (list_any (λ c. reaches n next c d) (next a)) r) (λ c t w. tested n c d t w)
    where
      go : test a ≡ true → list_all (all_reached n next test) (next a) ≡ true → (id_eq a d ≡ true) ⊎ (list_any (λ c. reaches n next c d) (next a) ≡ true) → ((c : Id) → all_reached n next test c ≡ true → reaches n next c d ≡ true → test d ≡ true) → test d ≡ true
      go t ts (inl same) rest = subst (λ z. test z ≡ true) (id_same a d same) t
      go t ts (inr on) rest = let w = any_at (λ c. reaches n next c d) (next a) on in rest w.1 (all_at (all_reached n next test) (next a) w.0 w.1 ts w.2) w.3

  all_from : (f : Id → Bool) (xs : List Id) → ((i : ℕ) (x : Id) → slice_get xs i ≡ Some x → f x ≡ true) → list_all f xs ≡ true
  all_from f [] h = refl
  all_from f (x ∷ xs) h = and_from (f x) (list_all f xs) (h 0 x refl) (all_from f xs (λ i y e. h (suc i) y e))

  pub all_tested : (n : ℕ) (a : Id) → ((d : Id) → reaches n next a d ≡ true → test d ≡ true) → all_reached n next test a ≡ true
  all_tested zero a h = h a (here a)
  all_tested (suc n) a h =
      and_from (test a) (list_all (all_reached n next test) (next a)) (h a (or_left (id_eq a a) (list_any (λ c. reaches n next c a) (next a)) (here a)))
      (all_from (all_reached n next test) (next a) (λ i c at. all_tested n c (λ d r. h d (or_right (id_eq a d) (list_any (λ z. reaches n next z d) (next a)) (at_any (λ z. reaches n next z d) (next a) i c at r)))))

  -- of a list that tells of each class whether it is reached
  pub tested_listed : (n : ℕ) (a : Id) (xs : List Id) → ((d : Id) → list_any (id_eq d) xs ≡ reaches n next a d) → all_reached n next test a ≡ list_all test xs
  tested_listed n a xs are =
      both_ways (all_reached n next test a) (list_all test xs)
      (λ e. all_from test xs (λ i x at. tested n a x e (sym (are x) ∙ at_any (id_eq x) xs i x at (here x))))
      (λ e. all_tested n a (λ d r. let w = any_at (id_eq d) xs (are d ∙ r) in subst (λ z. test z ≡ true) (sym (id_same d w.1 w.3)) (all_at test xs w.0 w.1 e w.2)))

-- ---- chains that end

module _ (cs : Classes) where
  pub chain_longer : (n : ℕ) (c : Id) → ends n (above cs) c ≡ true → chain_within n cs c ≡ chain_within (suc n) cs c
  chain_longer zero c e = absurd (cc e)
  chain_longer (suc n) c e = go (superclass_of cs c) refl (λ d h. chain_longer n d h)
    where
      go : (o : Option Id) → superclass_of cs c ≡ o → ((d : Id) → ends n (above cs) d ≡ true → chain_within n cs d ≡ chain_within (suc n) cs d) → c ∷ unwrap_or (option_map (chain_within n cs) (superclass_of cs c)) [] ≡ c ∷ unwrap_or (option_map (chain_within (suc n) cs) (superclass_of cs c)) []
      go None s rest = ap (λ o. c ∷ unwrap_or (option_map (chain_within n cs) o) []) s ∙ sym (ap (λ o. c ∷ unwrap_or (option_map (chain_within (suc n) cs) o) []) s)
      go (Some d) s rest =
          let on : list_all (ends n (above cs)) (listed (Some d)) ≡ true = sym (ap (λ o. list_all (ends n (above cs)) (listed o)) s) ∙ e in
          ap (λ o. c ∷ unwrap_or (option_map (chain_within n cs) o) []) s
          ∙ ap (λ xs. c ∷ xs) (rest d (and_parts (ends n (above cs) d) true on).0)
          ∙ sym (ap (λ o. c ∷ unwrap_or (option_map (chain_within (suc n) cs) o) []) s)

  pub above_whole : (n : ℕ) (c s : Id) → superclass_of cs c ≡ Some s → ends n (above cs) c ≡ true → chain_within n cs c ≡ c ∷ chain_within n cs s
  above_whole zero c s e h = absurd (cc h)
  above_whole (suc n) c s e h =
      let on : list_all (ends n (above cs)) (listed (Some s)) ≡ true = sym (ap (λ o. list_all (ends n (above cs)) (listed o)) e) ∙ h in
      ap (λ o. c ∷ unwrap_or (option_map (chain_within n cs) o) []) e ∙ ap (λ xs. c ∷ xs) (chain_longer n s (and_parts (ends n (above cs) s) true on).0)
