-- Chains of superclasses, and where two of them meet.
use Rattle.std.proofs.Common.{◌≡◌, ◌⊎◌, inl, inr, ⊎_elim, ℕ, zero, suc, ◌+◌, ◌-◌, ◌<◌, ◌≤◌, Bool, cond, true, false, List, [], ◌∷◌, length, Option, Some, None, refl, sym, ap, ◌∙◌, subst, arith}
use Rattle.std.specs.Prelude.{◌||◌, unwrap_or}
use Rattle.std.specs.List.{find, list_all, list_any}
use Rattle.std.specs.Option.{option_map}
use Rattle.std.proofs.lemmas.Bool.{cases_Bool, both_ways, or_cases, and_parts}
use Rattle.machine.specs.Data.{Id, id_eq}
use Rattle.machine.specs.Throw.{on_some}
use Rattle.machine_typed.proofs.Types.{id_same}
use Rattle.classes.specs.Classes.{Classes}
use Rattle.classes.specs.Queries.{listed, reaches, ends, above, superclass_of, is_sub, chain, chain_within, common_superclass}
use Rattle.class_rules.proofs.FitsLaws.{id_here}
use Rattle.class_order.specs.Order.{ChainsEnd, climbed}
use Rattle.class_order.proofs.ReachLaws.{or_false}

abbrev is_in : List Id → Id → Bool
is_in xs c = list_any (λ x. id_eq x c) xs

-- two tests that agree on a list find the same there
find_alike : (p q : Id → Bool) (xs : List Id) → ((c : Id) → is_in xs c ≡ true → p c ≡ q c) → find p xs ≡ find q xs
find_alike p q [] same = refl
find_alike p q (x ∷ xs) same =
    ap (λ b. cond b (Some x) (find p xs)) (same x (ap (λ b. b || is_in xs x) (id_here x)))
    ∙ ap (cond (q x) (Some x)) (find_alike p q xs (λ c h. same c (ap (λ b. id_eq x c || b) h ∙ or_true (id_eq x c))))
  where
    or_true : (b : Bool) → (b || true) ≡ true
    or_true true = refl
    or_true false = refl

module _ (cs : Classes) where
  reach_chain : (n : ℕ) (a b : Id) → reaches n (above cs) a b ≡ is_in (chain_within n cs a) b
  reach_chain zero a b = sym (or_false (id_eq a b))
  reach_chain (suc n) a b = ap (λ z. id_eq a b || z) (by (superclass_of cs a) (λ d. reach_chain n d b))
    where
      by : (o : Option Id) → ((d : Id) → reaches n (above cs) d b ≡ is_in (chain_within n cs d) b) → list_any (λ c. reaches n (above cs) c b) (listed o) ≡ is_in (unwrap_or (option_map (chain_within n cs) o) []) b
      by None ih = refl
      by (Some d) ih = or_false (reaches n (above cs) d b) ∙ ih d

  -- ---- how long they are

  pub within_up : (n : ℕ) (c d : Id) → superclass_of cs c ≡ Some d → length (chain_within (suc n) cs c) ≡ suc (length (chain_within n cs d))
  within_up n c d up = ap (λ o. suc (length (unwrap_or (option_map (chain_within n cs) o) []))) up

  pub within_top : (n : ℕ) (c : Id) → superclass_of cs c ≡ None → length (chain_within n cs c) ≡ 1
  within_top zero c up = refl
  within_top (suc n) c up = ap (λ o. suc (length (unwrap_or (option_map (chain_within n cs) o) []))) up

  -- ---- chains that end

  some_end : (n : ℕ) (o : Option Id) → list_all (ends n (above cs)) (listed o) ≡ true → (d : Id) → o ≡ Some d → ends n (above cs) d ≡ true
  some_end n None h d e = absurd (cc e)
  some_end n (Some c) h d e = let same : c ≡ d = cc e in subst (λ x. ends n (above cs) x ≡ true) same (and_parts (ends n (above cs) c) true h).0

  pub ends_up : (n : ℕ) (c d : Id) → ends (suc n) (above cs) c ≡ true → superclass_of cs c ≡ Some d → ends n (above cs) d ≡ true
  ends_up n c d e up = some_end n (superclass_of cs c) e d up

  -- of a chain that ends, one more step tells nothing more
  one_more : (n : ℕ) (c : Id) → ends (suc n) (above cs) c ≡ true → chain_within (suc n) cs c ≡ chain_within n cs c
  one_more zero c e = by (superclass_of cs c) refl
    where
      by : (o : Option Id) → superclass_of cs c ≡ o → c ∷ unwrap_or (option_map (chain_within zero cs) o) [] ≡ c ∷ []
      by None h = refl
      by (Some d) h = absurd (let no = ends_up zero c d e h in cc no)
  one_more (suc n) c e = ap (λ xs. c ∷ xs) (by (superclass_of cs c) refl (λ d h. one_more n d (ends_up (suc n) c d e h)))
    where
      by : (o : Option Id) → superclass_of cs c ≡ o → ((d : Id) → superclass_of cs c ≡ Some d → chain_within (suc n) cs d ≡ chain_within n cs d) → unwrap_or (option_map (chain_within (suc n) cs) o) [] ≡ unwrap_or (option_map (chain_within n cs) o) []
      by None h ih = refl
      by (Some d) h ih = ih d h

  module _ (all_end : ChainsEnd cs) where
    chain_at : (n : ℕ) → cs.size ≡ n → (c : Id) → chain cs c ≡ c ∷ unwrap_or (option_map (chain cs) (superclass_of cs c)) []
    chain_at zero e c = absurd (let no : ends zero (above cs) c ≡ true = subst (λ k. ends k (above cs) c ≡ true) e (all_end c) in cc no)
    chain_at (suc n) e c = ap (λ k. chain_within k cs c) e ∙ ap (λ xs. c ∷ xs) (by (superclass_of cs c))
      where
        by : (o : Option Id) → unwrap_or (option_map (chain_within n cs) o) [] ≡ unwrap_or (option_map (chain cs) o) []
        by None = refl
        by (Some d) = sym (one_more n d (subst (λ k. ends k (above cs) d ≡ true) e (all_end d))) ∙ ap (λ k. chain_within k cs d) (sym e)

    pub chain_up : (c d : Id) → superclass_of cs c ≡ Some d → chain cs c ≡ c ∷ chain cs d
    chain_up c d up = chain_at cs.size refl c ∙ ap (λ o. c ∷ unwrap_or (option_map (chain cs) o) []) up

    pub chain_top : (c : Id) → superclass_of cs c ≡ None → chain cs c ≡ c ∷ []
    chain_top c up = chain_at cs.size refl c ∙ ap (λ o. c ∷ unwrap_or (option_map (chain cs) o) []) up

    pub longer : (c d : Id) → superclass_of cs c ≡ Some d → length (chain cs c) ≡ suc (length (chain cs d))
    longer c d up = ap length (chain_up c d up)

    pub alone : (c : Id) → superclass_of cs c ≡ None → length (chain cs c) ≡ 1
    alone c up = ap length (chain_top c up)

    pub some_there : (c : Id) → 0 < length (chain cs c)
    some_there c = let e = ap length (chain_at cs.size refl c) in omega (arith, e)

    sub_in : (b c : Id) → is_sub cs b c ≡ is_in (chain cs b) c
    sub_in b c = reach_chain cs.size b c

    sub_up : (b d c : Id) → superclass_of cs b ≡ Some d → is_sub cs b c ≡ (id_eq b c || is_sub cs d c)
    sub_up b d c up = sub_in b c ∙ ap (λ xs. is_in xs c) (chain_up b d up) ∙ ap (λ z. id_eq b c || z) (sym (sub_in d c))

    sub_top : (b c : Id) → superclass_of cs b ≡ None → is_sub cs b c ≡ id_eq b c
    sub_top b c up = sub_in b c ∙ ap (λ xs. is_in xs c) (chain_top b up) ∙ or_false (id_eq b c)

    -- what stands above a class has no longer chain
    shorter : (n : ℕ) (b c : Id) → ends n (above cs) b ≡ true → is_sub cs b c ≡ true → length (chain cs c) ≤ length (chain cs b)
    shorter zero b c e h = absurd (cc e)
    shorter (suc n) b c e h = by (superclass_of cs b) refl (λ d up k. shorter n d c (ends_up n b d e up) k)
      where
        same : id_eq b c ≡ true → length (chain cs c) ≤ length (chain cs b)
        same k = let l : length (chain cs b) ≡ length (chain cs c) = ap (λ x. length (chain cs x)) (id_same b c k) in omega (arith, l)

        by : (o : Option Id) → superclass_of cs b ≡ o → ((d : Id) → superclass_of cs b ≡ Some d → is_sub cs d c ≡ true → length (chain cs c) ≤ length (chain cs d)) → length (chain cs c) ≤ length (chain cs b)
        by None up ih = same (sym (sub_top b c up) ∙ h)
        by (Some d) up ih =
            ⊎_elim
            same
            (λ k. let l = ih d up k in let m = longer b d up in omega (arith, l, m))
            (or_cases (id_eq b c) (is_sub cs d c) (sym (sub_up b d c up) ∙ h))

    no_sub : (b c : Id) → length (chain cs b) < length (chain cs c) → is_sub cs b c ≡ false
    no_sub b c low = by (cases_Bool (is_sub cs b c))
      where
        by : (is_sub cs b c ≡ true) ⊎ (is_sub cs b c ≡ false) → is_sub cs b c ≡ false
        by (inl e) = let l = shorter cs.size b c (all_end b) e in absurd (omega (arith, l, low))
        by (inr e) = e

    -- another class with a chain as long isn't above it
    pub no_other : (b c : Id) → id_eq b c ≡ false → length (chain cs b) ≤ length (chain cs c) → is_sub cs b c ≡ false
    no_other b c apart low = by (superclass_of cs b) refl
      where
        by : (o : Option Id) → superclass_of cs b ≡ o → is_sub cs b c ≡ false
        by None up = sub_top b c up ∙ apart
        by (Some d) up = let m = longer b d up in sub_up b d c up ∙ ap (λ z. z || is_sub cs d c) apart ∙ no_sub d c (omega (arith, m, low))

    -- ---- where two chains meet

    pub meet_here : (a b : Id) → id_eq a b ≡ true → Some a ≡ common_superclass cs a b
    meet_here a b e = sym (ap (λ x. common_superclass cs a x) (sym (id_same a b e)) ∙ ap (find (λ c. is_sub cs a c)) (chain_at cs.size refl a) ∙ ap (λ z. cond z (Some a) (find (λ c. is_sub cs a c) (unwrap_or (option_map (chain cs) (superclass_of cs a)) []))) (itself (superclass_of cs a) refl))
      where
        itself : (o : Option Id) → superclass_of cs a ≡ o → is_sub cs a a ≡ true
        itself None up = sub_top a a up ∙ id_here a
        itself (Some d) up = sub_up a d a up ∙ ap (λ z. z || is_sub cs d a) (id_here a)

    first_up : (a b d : Id) → superclass_of cs a ≡ Some d → is_sub cs b a ≡ false → common_superclass cs a b ≡ common_superclass cs d b
    first_up a b d up away = ap (find (λ c. is_sub cs b c)) (chain_up a d up) ∙ ap (λ z. cond z (Some a) (find (λ c. is_sub cs b c) (chain cs d))) away

    first_top : (a b : Id) → superclass_of cs a ≡ None → is_sub cs b a ≡ false → common_superclass cs a b ≡ None
    first_top a b up away = ap (find (λ c. is_sub cs b c)) (chain_top a up) ∙ ap (λ z. cond z (Some a) None) away

    second_up : (a b d : Id) → superclass_of cs b ≡ Some d → length (chain cs a) < length (chain cs b) → common_superclass cs a b ≡ common_superclass cs a d
    second_up a b d up low = find_alike (λ c. is_sub cs b c) (λ c. is_sub cs d c) (chain cs a) each
      where
        apart : (c : Id) → is_in (chain cs a) c ≡ true → id_eq b c ≡ false
        apart c h = by (cases_Bool (id_eq b c))
          where
            by : (id_eq b c ≡ true) ⊎ (id_eq b c ≡ false) → id_eq b c ≡ false
            by (inl e) =
                let l = shorter cs.size a c (all_end a) (sub_in a c ∙ h) in
                let m : length (chain cs b) ≡ length (chain cs c) = ap (λ x. length (chain cs x)) (id_same b c e) in
                absurd (omega (arith, l, m, low))
            by (inr e) = e

        each : (c : Id) → is_in (chain cs a) c ≡ true → is_sub cs b c ≡ is_sub cs d c
        each c h = sub_up b d c up ∙ ap (λ z. z || is_sub cs d c) (apart c h)

    -- two that aren't the same, with chains as long: what is above both is above their superclasses
    pub both_up : (a b c d : Id) → id_eq a b ≡ false → length (chain cs a) ≡ length (chain cs b) → superclass_of cs a ≡ Some c → superclass_of cs b ≡ Some d → common_superclass cs c d ≡ common_superclass cs a b
    both_up a b c d apart level up on =
        let m = longer a c up in
        sym (first_up a b c up (no_other b a (turned a b apart) (omega (arith, level))) ∙ second_up c b d on (omega (arith, m, level)))
      where
        turned : (x y : Id) → id_eq x y ≡ false → id_eq y x ≡ false
        turned x y e = by (cases_Bool (id_eq y x))
          where
            by : (id_eq y x ≡ true) ⊎ (id_eq y x ≡ false) → id_eq y x ≡ false
            by (inl h) = absurd (both_ways (id_eq x y) e (ap (λ z. id_eq x z) (id_same y x h) ∙ id_here x))
            by (inr h) = h

    pub both_level : (a b c d : Id) → length (chain cs a) ≡ length (chain cs b) → superclass_of cs a ≡ Some c → superclass_of cs b ≡ Some d → length (chain cs c) ≡ length (chain cs d)
    both_level a b c d level up on = let m = longer a c up in let n = longer b d on in omega (arith, m, n, level)

    pub apart_top : (a b : Id) → id_eq a b ≡ false → length (chain cs a) ≡ length (chain cs b) → superclass_of cs a ≡ None → None ≡ common_superclass cs a b
    apart_top a b apart level up = sym (first_top a b up (by (cases_Bool (is_sub cs b a))))
      where
        by : (is_sub cs b a ≡ true) ⊎ (is_sub cs b a ≡ false) → is_sub cs b a ≡ false
        by (inr e) = e
        by (inl e) = go (superclass_of cs b) refl
          where
            go : (o : Option Id) → superclass_of cs b ≡ o → is_sub cs b a ≡ false
            go None on = absurd (both_ways (id_eq a b) apart (ap (λ z. id_eq a z) (id_same b a (sym (sub_top b a on) ∙ e)) ∙ id_here a))
            go (Some d) on = let m = longer b d on in let n = alone a up in let s = some_there d in absurd (omega (arith, m, n, s, level))

    pub uneven_top : (a b c : Id) → length (chain cs a) ≡ length (chain cs b) → superclass_of cs a ≡ Some c → superclass_of cs b ≡ None → ⊥
    uneven_top a b c level up on = let m = longer a c up in let n = alone b on in let s = some_there c in omega (arith, m, n, s, level)

    -- ---- steps up

    pub climbed_there : (n : ℕ) (a : Id) → n < length (chain cs a) → climbed n cs a ≡ None → ⊥
    climbed_there zero a low e = cc e
    climbed_there (suc n) a low e = by (superclass_of cs a) refl e (λ d up h. let m = longer a d up in climbed_there n d (omega (arith, m, low)) h)
      where
        by : (o : Option Id) → superclass_of cs a ≡ o → on_some o (climbed n cs) ≡ None → ((d : Id) → superclass_of cs a ≡ Some d → climbed n cs d ≡ None → ⊥) → ⊥
        by None up h ih = let m = alone a up in omega (arith, m, low)
        by (Some d) up h ih = ih d up h

    -- the one with the longer chain goes up
    pub first_climbs : (n : ℕ) (a b c : Id) → length (chain cs a) ≡ n + length (chain cs b) → climbed n cs a ≡ Some c → (length (chain cs c) ≡ length (chain cs b)) × (common_superclass cs c b ≡ common_superclass cs a b)
    first_climbs zero a b c far e = let same : a ≡ c = cc e in subst (λ x. (length (chain cs x) ≡ length (chain cs b)) × (common_superclass cs x b ≡ common_superclass cs a b)) same (omega (arith, far), refl)
    first_climbs (suc n) a b c far e = by (superclass_of cs a) refl e (λ d up h. let m = longer a d up in first_climbs n d b c (omega (arith, m, far)) h)
      where
        by : (o : Option Id) → superclass_of cs a ≡ o → on_some o (climbed n cs) ≡ Some c → ((d : Id) → superclass_of cs a ≡ Some d → climbed n cs d ≡ Some c → (length (chain cs c) ≡ length (chain cs b)) × (common_superclass cs c b ≡ common_superclass cs d b)) → (length (chain cs c) ≡ length (chain cs b)) × (common_superclass cs c b ≡ common_superclass cs a b)
        by None up h ih = absurd (cc h)
        by (Some d) up h ih = let t = ih d up h in (t.0, t.1 ∙ sym (first_up a b d up (no_sub b a (omega (arith, far)))))

    pub second_climbs : (n : ℕ) (a b c : Id) → length (chain cs b) ≡ n + length (chain cs a) → climbed n cs b ≡ Some c → (length (chain cs a) ≡ length (chain cs c)) × (common_superclass cs a c ≡ common_superclass cs a b)
    second_climbs zero a b c far e = let same : b ≡ c = cc e in subst (λ x. (length (chain cs a) ≡ length (chain cs x)) × (common_superclass cs a x ≡ common_superclass cs a b)) same (omega (arith, far), refl)
    second_climbs (suc n) a b c far e = by (superclass_of cs b) refl e (λ d up h. let m = longer b d up in second_climbs n a d c (omega (arith, m, far)) h)
      where
        by : (o : Option Id) → superclass_of cs b ≡ o → on_some o (climbed n cs) ≡ Some c → ((d : Id) → superclass_of cs b ≡ Some d → climbed n cs d ≡ Some c → (length (chain cs a) ≡ length (chain cs c)) × (common_superclass cs a c ≡ common_superclass cs a d)) → (length (chain cs a) ≡ length (chain cs c)) × (common_superclass cs a c ≡ common_superclass cs a b)
        by None up h ih = absurd (cc h)
        by (Some d) up h ih = let t = ih d up h in (t.0, t.1 ∙ sym (second_up a b d up (omega (arith, far))))

    -- both brought to one height
    pub levelled : (i j : ℕ) (a b c d : Id) → i ≡ length (chain cs a) - length (chain cs b) → j ≡ length (chain cs b) - length (chain cs a) → climbed i cs a ≡ Some c → climbed j cs b ≡ Some d → (length (chain cs c) ≡ length (chain cs d)) × (common_superclass cs c d ≡ common_superclass cs a b)
    levelled zero j a b c d e f g h = let same : a ≡ c = cc g in subst (λ x. (length (chain cs x) ≡ length (chain cs d)) × (common_superclass cs x d ≡ common_superclass cs a b)) same (second_climbs j a b d (omega (arith, e, f)) h)
    levelled (suc i) zero a b c d e f g h = let same : b ≡ d = cc h in subst (λ x. (length (chain cs c) ≡ length (chain cs x)) × (common_superclass cs c x ≡ common_superclass cs a b)) same (first_climbs (suc i) a b c (omega (arith, e)) g)
    levelled (suc i) (suc j) a b c d e f g h = absurd (omega (arith, e, f))
