-- Where a way ends at all, it ends within as many steps as there are nodes with a way on, and one more.
use Rattle.std.proofs.Common.{◌≡◌, ◌⊎◌, ⊎_elim, inl, inr, ℕ, zero, suc, ◌+◌, ◌-◌, ◌<◌, ◌≤◌, Bool, true, false, cond, List, [], ◌∷◌, length, refl, sym, ap, ◌∙◌, subst, arith}
use Rattle.std.specs.Prelude.{◌&&◌}
use Rattle.std.specs.List.{list_all}
use Rattle.std.proofs.lemmas.Bool.{and_parts}
use Rattle.machine.specs.Data.{Id}
use Rattle.classes.specs.Queries.{ends}
use Rattle.alike.proofs.Chains.{stable}
use Rattle.assemblies.specs.Closed.{Each}

all_more : (f g : Id → Bool) (xs : List Id) → ((x : Id) → f x ≡ true → g x ≡ true) → list_all f xs ≡ true → list_all g xs ≡ true
all_more f g [] h e = refl
all_more f g (x ∷ xs) h e =
    let b = and_parts (f x) (list_all f xs) e in
    ap (λ t. t && list_all g xs) (h x b.0) ∙ all_more f g xs h b.1

module _ (next : Id → List Id) where
  pub ends_more : (n : ℕ) (c : Id) → ends n next c ≡ true → ends (suc n) next c ≡ true
  ends_more zero c e = absurd (cc e)
  ends_more (suc n) c e = all_more (ends n next) (ends (suc n) next) (next c) (λ x t. ends_more n x t) e

  pub ends_later : (d n : ℕ) (c : Id) → ends n next c ≡ true → ends (n + d) next c ≡ true
  ends_later zero n c e = let same : n ≡ n + 0 = omega arith in subst (λ k. ends k next c ≡ true) same e
  ends_later (suc d) n c e = let same : suc (n + d) ≡ n + suc d = omega arith in subst (λ k. ends k next c ≡ true) same (ends_more (n + d) c (ends_later d n c e))

  -- one more step ends no further way of the node, or of all nodes
  abbrev pub Same : ℕ → Id → Type 0
  Same n c = ends (suc n) next c ≡ ends n next c

  abbrev Stays : ℕ → Type 0
  Stays n = (c : Id) → Same n c

  -- how many of some nodes have ways that end in so many steps
  abbrev ended : ℕ → List Id → ℕ
  ended n [] = 0
  ended n (c ∷ cs) = cond (ends n next c) 1 0 + ended n cs

  at_most : (b : Bool) → cond b 1 0 ≤ 1
  at_most true = omega arith
  at_most false = omega arith

  all_or_fewer : (n : ℕ) (cs : List Id) → ended n cs ≤ length cs
  all_or_fewer n [] = omega arith
  all_or_fewer n (c ∷ cs) = let one = at_most (ends n next c) in let rest = all_or_fewer n cs in omega (arith, one, rest)

  rises : (n : ℕ) (c : Id) → cond (ends n next c) 1 0 ≤ cond (ends (suc n) next c) 1 0
  rises n c = by (ends n next c) refl
    where
      by : (b : Bool) → ends n next c ≡ b → cond b 1 0 ≤ cond (ends (suc n) next c) 1 0
      by true e = subst (λ b. 1 ≤ cond b 1 0) (sym (ends_more n c e)) (omega arith)
      by false e = omega arith

  all_rise : (n : ℕ) (cs : List Id) → ended n cs ≤ ended (suc n) cs
  all_rise n [] = omega arith
  all_rise n (c ∷ cs) = let one = rises n c in let rest = all_rise n cs in omega (arith, one, rest)

  one_more : (n : ℕ) (cs : List Id) → Each (Same n) cs ⊎ (suc (ended n cs) ≤ ended (suc n) cs)
  one_more n [] = inl tt
  one_more n (c ∷ cs) = by (ends n next c) (ends (suc n) next c) refl refl (one_more n cs)
    where
      by : (b d : Bool) → ends n next c ≡ b → ends (suc n) next c ≡ d → Each (Same n) cs ⊎ (suc (ended n cs) ≤ ended (suc n) cs) → Each (Same n) (c ∷ cs) ⊎ (suc (cond b 1 0 + ended n cs) ≤ cond d 1 0 + ended (suc n) cs)
      by true true e g (inl h) = inl (g ∙ sym e, h)
      by true true e g (inr h) = inr (omega (arith, h))
      by false false e g (inl h) = inl (g ∙ sym e, h)
      by false false e g (inr h) = inr (omega (arith, h))
      by false true e g h = let rest = all_rise n cs in inr (omega (arith, rest))
      by true false e g h = absurd (cc (sym g ∙ ends_more n c e))

  all_end : (n : ℕ) (cs : List Id) → length cs ≤ ended n cs → Each (λ c. ends n next c ≡ true) cs
  all_end n [] h = tt
  all_end n (c ∷ cs) h = by (ends n next c) refl h (all_end n cs)
    where
      by : (b : Bool) → ends n next c ≡ b → suc (length cs) ≤ cond b 1 0 + ended n cs → (length cs ≤ ended n cs → Each (λ d. ends n next d ≡ true) cs) → Each (λ d. ends n next d ≡ true) (c ∷ cs)
      by true e g rest = (e, rest (omega (arith, g)))
      by false e g rest = let most = all_or_fewer n cs in absurd (omega (arith, most, g))

  all_same : (n : ℕ) (cs : List Id) → Each (λ c. ends n next c ≡ true) cs → Each (Same n) cs
  all_same n [] h = tt
  all_same n (c ∷ cs) h = (ends_more n c h.0 ∙ sym h.0, all_same n cs h.1)

  module _ (nodes : List Id) (outside : (c : Id) → (next c ≡ []) ⊎ ((n : ℕ) → Each (Same n) nodes → Same n c)) where
    all_stay : (n : ℕ) → Each (Same (suc n)) nodes → Stays (suc n)
    all_stay n h c = ⊎_elim (λ none. ap (list_all (ends (suc n) next)) none ∙ sym (ap (list_all (ends n next)) none)) (λ is. is (suc n) h) (outside c)

    abbrev Settled : ℕ → Type 0
    Settled n = (j : ℕ) × ((j ≤ n) × Stays (suc j))

    goes_on : (n : ℕ) → Settled n ⊎ (n ≤ ended (suc n) nodes)
    goes_on zero = inr (omega arith)
    goes_on (suc n) = by (goes_on n)
      where
        on : n ≤ ended (suc n) nodes → Each (Same (suc n)) nodes ⊎ (suc (ended (suc n) nodes) ≤ ended (suc (suc n)) nodes) → Settled (suc n) ⊎ (suc n ≤ ended (suc (suc n)) nodes)
        on h (inl same) = inl (n, (omega arith, all_stay n same))
        on h (inr more) = inr (omega (arith, h, more))

        by : Settled n ⊎ (n ≤ ended (suc n) nodes) → Settled (suc n) ⊎ (suc n ≤ ended (suc (suc n)) nodes)
        by (inl (j, (h, s))) = inl (j, (omega (arith, h), s))
        by (inr h) = on h (one_more (suc n) nodes)

    settled : Settled (length nodes)
    settled = by (goes_on (length nodes))
      where
        by : Settled (length nodes) ⊎ (length nodes ≤ ended (suc (length nodes)) nodes) → Settled (length nodes)
        by (inl s) = s
        by (inr h) = (length nodes, (omega arith, all_stay (length nodes) (all_same (suc (length nodes)) nodes (all_end (suc (length nodes)) nodes h))))

    pub enough : (k m : ℕ) (c : Id) → length nodes < k → length nodes < m → ends k next c ≡ ends m next c
    enough k m c hk hm = from k hk ∙ sym (from m hm)
      where
        from : (k : ℕ) → length nodes < k → ends k next c ≡ ends (suc settled.0) next c
        from k h =
            let low : settled.0 ≤ length nodes = settled.1.0 in
            let whole : k ≡ suc settled.0 + (k - suc settled.0) = omega (arith, low, h) in
            ap (λ n. ends n next c) whole ∙ stable next (suc settled.0) settled.1.1 (k - suc settled.0) c
