-- A way that meets a class again finds nothing more.
use Rattle.std.proofs.Common.{◌≡◌, ℕ, zero, suc, ◌+◌, ◌-◌, subst, ◌<◌, ◌⊎◌, inl, inr, [], Option, Some, None, refl, ap, ◌∙◌, arith}
use Rattle.std.specs.Prelude.{unwrap_or}
use Rattle.std.specs.Option.{option_map}
use Rattle.machine.specs.Data.{Id}
use Rattle.classes.specs.Classes.{Classes}
use Rattle.classes.specs.Queries.{superclass_of, chain_within, or_else, first_some}
use Rattle.member_search.specs.Walk.{Walked}

module _ (cs : Classes) (look : Id → Option Id) where
  abbrev pub up : ℕ → Id → Option Id
  up n c = first_some look (chain_within n cs c)

  pub walked_more : (n : ℕ) (from to next : Id) → Walked cs look n from to → look to ≡ None → superclass_of cs to ≡ Some next → Walked cs look (suc n) from next
  walked_more zero from to next w l s = (next, ap look w ∙ l, ap (superclass_of cs) w ∙ s, refl)
  walked_more (suc n) from to next (mid, l', s', w) l s = (mid, l', s', walked_more n mid to next w l s)

  pub up_here : (n : ℕ) (c d : Id) → look c ≡ Some d → up n c ≡ Some d
  up_here zero c d l = ap (λ o. or_else o None) l
  up_here (suc n) c d l = ap (λ o. or_else o (first_some look (unwrap_or (option_map (chain_within n cs) (superclass_of cs c)) []))) l

  pub up_ends : (c : Id) → look c ≡ None → up zero c ≡ None
  up_ends c l = ap (λ o. or_else o None) l

  pub up_top : (n : ℕ) (c : Id) → look c ≡ None → superclass_of cs c ≡ None → up n c ≡ None
  up_top zero c l s = up_ends c l
  up_top (suc n) c l s =
      ap (λ o. or_else o (first_some look (unwrap_or (option_map (chain_within n cs) (superclass_of cs c)) []))) l
      ∙ ap (λ o. first_some look (unwrap_or (option_map (chain_within n cs) o) [])) s

  pub up_step : (n : ℕ) (c next : Id) → look c ≡ None → superclass_of cs c ≡ Some next → up (suc n) c ≡ up n next
  up_step n c next l s =
      ap (λ o. or_else o (first_some look (unwrap_or (option_map (chain_within n cs) (superclass_of cs c)) []))) l
      ∙ ap (λ o. first_some look (unwrap_or (option_map (chain_within n cs) o) [])) s

  round : (s : ℕ) (from to : Id) (n : ℕ) → Walked cs look s from to → (up n from ≡ None) ⊎ ((k : ℕ) × (n ≡ s + k) × (up n from ≡ up k to))
  round zero from to n w = let same : n ≡ 0 + n = omega arith in inr (n, same, ap (up n) w)
  round (suc s) from to zero (next, l, e, w) = inl (up_ends from l)
  round (suc s) from to (suc n) (next, l, e, w) = go (round s next to n w)
    where
      go : (up n next ≡ None) ⊎ ((k : ℕ) × (n ≡ s + k) × (up n next ≡ up k to)) → (up (suc n) from ≡ None) ⊎ ((k : ℕ) × (suc n ≡ suc s + k) × (up (suc n) from ≡ up k to))
      go (inl h) = inl (up_step n from next l e ∙ h)
      go (inr (k, q, h)) = let more : suc n ≡ suc s + k = omega arith in inr (k, more, up_step n from next l e ∙ h)

  circle_within : (most s : ℕ) (c : Id) (n : ℕ) → n < most → Walked cs look (suc s) c c → up n c ≡ None
  circle_within zero s c n h w = absurd (omega arith)
  circle_within (suc most) s c n h w = go (λ k fewer. circle_within most s c k fewer w) (round (suc s) c c n w)
    where
      go : ((k : ℕ) → k < most → up k c ≡ None) → (up n c ≡ None) ⊎ ((k : ℕ) × (n ≡ suc s + k) × (up n c ≡ up k c)) → up n c ≡ None
      go again (inl e) = e
      go again (inr (k, q, e)) = let fewer : k < most = omega arith in e ∙ again k fewer

  pub circle : (s : ℕ) (c : Id) (n : ℕ) → Walked cs look (suc s) c c → up n c ≡ None
  circle s c n w = let below : n < suc n = omega arith in circle_within (suc n) s c n below w

  pub circle_met : (steps : ℕ) (mark at next : Id) (left : ℕ) → Walked cs look steps mark at → look at ≡ None → superclass_of cs at ≡ Some next → next ≡ mark → (left ≡ 0 → ⊥) → up left at ≡ None
  circle_met steps mark at next zero w l s e h = absurd (h refl)
  circle_met steps mark at next (suc n) w l s e h = up_step n at next l s ∙ ap (up n) e ∙ circle steps mark n (subst (λ x. Walked cs look (suc steps) mark x) e (walked_more steps mark at next w l s))

  pub up_next : (left : ℕ) (at next : Id) → (left ≡ 0 → ⊥) → look at ≡ None → superclass_of cs at ≡ Some next → up left at ≡ up (left - 1) next
  up_next zero at next h l s = absurd (h refl)
  up_next (suc n) at next h l s = let less : n ≡ suc n - 1 = omega arith in up_step n at next l s ∙ ap (λ k. up k next) less
