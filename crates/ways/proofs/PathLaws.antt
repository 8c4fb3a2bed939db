-- A path that leads to itself, or to a way that doesn't end, has no end.
use Rattle.std.proofs.Common.{◌≡◌, ℕ, zero, suc, ◌⊎◌, inl, inr, false, List, [], ◌∷◌, ◌++◌, Some, refl, sym, ap, ◌∙◌}
use Rattle.std.specs.Prelude.{slice_get}
use Rattle.ways.specs.Heights.{ends, IsEndless}
use Rattle.ways.specs.declared.walk.Place.{Place}
use Rattle.ways.specs.Walk.{IsOn, AreLinked}
use Rattle.ways.proofs.WaysLaws.{too_long}

abbrev AllLong : (ℕ → List ℕ) → ℕ → List Place → Type 0
AllLong next n path = (a : ℕ) → IsOn path a → ends n next a ≡ false

-- each place leads on, the last one as is told
long_by : (next : ℕ → List ℕ) (n : ℕ) (ps : List Place) (p : Place) (edge b : ℕ) → slice_get (next p.node) edge ≡ Some b → ends n next b ≡ false → AreLinked next (ps ++ p ∷ []) → AllLong next n (ps ++ p ∷ []) → AllLong next (suc n) (ps ++ p ∷ [])
long_by next n [] p edge b leads long linked all a (inl is) = ap (λ x. ends (suc n) next x) (sym is) ∙ too_long next p.node edge b n leads long
long_by next n [] p edge b leads long linked all a (inr on) = absurd on
long_by next n (q ∷ []) p edge b leads long linked all a (inl is) = ap (λ x. ends (suc n) next x) (sym is) ∙ too_long next q.node q.taken p.node n linked.0 (all p.node (inr (inl refl)))
long_by next n (q ∷ []) p edge b leads long linked all a (inr on) = long_by next n [] p edge b leads long linked.1 (λ c on. all c (inr on)) a on
long_by next n (q ∷ r ∷ ps) p edge b leads long linked all a (inl is) = ap (λ x. ends (suc n) next x) (sym is) ∙ too_long next q.node q.taken r.node n linked.0 (all r.node (inr (inl refl)))
long_by next n (q ∷ r ∷ ps) p edge b leads long linked all a (inr on) = long_by next n (r ∷ ps) p edge b leads long linked.1 (λ c on. all c (inr on)) a on

module _ (next : ℕ → List ℕ) (ps : List Place) (p : Place) (linked : AreLinked next (ps ++ p ∷ [])) (edge b : ℕ) (leads : slice_get (next p.node) edge ≡ Some b) (circle : IsOn (ps ++ p ∷ []) b ⊎ IsEndless next b) where
  beyond : (n : ℕ) → IsOn (ps ++ p ∷ []) b ⊎ IsEndless next b → AllLong next n (ps ++ p ∷ []) → ends n next b ≡ false
  beyond n (inl on) all = all b on
  beyond n (inr endless) all = endless n

  all_long : (n : ℕ) → AllLong next n (ps ++ p ∷ [])
  all_long zero = λ a on. refl
  all_long (suc n) = long_by next n ps p edge b leads (beyond n circle (all_long n)) linked (all_long n)

  pub path_endless : (a : ℕ) → IsOn (ps ++ p ∷ []) a → IsEndless next a
  path_endless a on = λ n. all_long n a on
