-- A class is reached up the superclasses, or it isn't; where the way up ends, the superclass reaches what its class does.
use Rattle.std.proofs.Common.{◌≡◌, ◌∙◌, ℕ, zero, suc, Bool, true, false, Option, Some, None, refl, sym, ap}
use Rattle.std.specs.Prelude.{◌||◌, ◌&&◌}
use Rattle.std.specs.List.{list_any, list_all}
use Rattle.machine.specs.Data.{Id, id_eq}
use Rattle.classes.specs.Classes.{Classes}
use Rattle.classes.specs.Queries.{above, ends, is_sub, listed, reaches, superclass_of}

or_false : (b : Bool) → (b || false) ≡ b
or_false true = refl
or_false false = refl

and_true : (b : Bool) → (b && true) ≡ b
and_true true = refl
and_true false = refl

module _ (cs : Classes) (a b : Id) where
  pub reach_here : (n : ℕ) → id_eq a b ≡ true → reaches n (above cs) a b ≡ true
  reach_here zero e = e
  reach_here (suc n) e = ap (λ x. x || list_any (λ c. reaches n (above cs) c b) (above cs a)) e

  past_here : (n : ℕ) → id_eq a b ≡ false → reaches (suc n) (above cs) a b ≡ list_any (λ c. reaches n (above cs) c b) (listed (superclass_of cs a))
  past_here n e = ap (λ x. x || list_any (λ c. reaches n (above cs) c b) (above cs a)) e

  pub reach_up : (n : ℕ) (d : Id) → id_eq a b ≡ false → superclass_of cs a ≡ Some d → reaches (suc n) (above cs) a b ≡ reaches n (above cs) d b
  reach_up n d e up = past_here n e ∙ ap (λ o. list_any (λ c. reaches n (above cs) c b) (listed o)) up ∙ or_false (reaches n (above cs) d b)

  pub reach_top : (n : ℕ) → id_eq a b ≡ false → superclass_of cs a ≡ None → reaches n (above cs) a b ≡ false
  reach_top zero e top = e
  reach_top (suc n) e top = past_here n e ∙ ap (λ o. list_any (λ c. reaches n (above cs) c b) (listed o)) top

module _ (cs : Classes) where
  ends_on : (n : ℕ) (a d : Id) → ends (suc n) (above cs) a ≡ true → superclass_of cs a ≡ Some d → ends n (above cs) d ≡ true
  ends_on n a d e up = sym (and_true (ends n (above cs) d)) ∙ sym (ap (λ o. list_all (ends n (above cs)) (listed o)) up) ∙ e

  ends_later : (n : ℕ) (a : Id) → ends n (above cs) a ≡ true → ends (suc n) (above cs) a ≡ true
  ends_later zero a e = absurd (cc e)
  ends_later (suc n) a e = go (superclass_of cs a) refl (λ d on. ends_later n d on)
    where
      go : (o : Option Id) → superclass_of cs a ≡ o → ((d : Id) → ends n (above cs) d ≡ true → ends (suc n) (above cs) d ≡ true) → ends (suc (suc n)) (above cs) a ≡ true
      go None top later = ap (λ o. list_all (ends (suc n) (above cs)) (listed o)) top
      go (Some d) up later = ap (λ o. list_all (ends (suc n) (above cs)) (listed o)) up ∙ and_true (ends (suc n) (above cs) d) ∙ later d (ends_on n a d e up)

  ends_up_in : (n : ℕ) (a d : Id) → ends n (above cs) a ≡ true → superclass_of cs a ≡ Some d → ends n (above cs) d ≡ true
  ends_up_in zero a d e up = absurd (cc e)
  ends_up_in (suc n) a d e up = ends_later n d (ends_on n a d e up)

  -- nothing more is reached in more steps than the way has
  reach_later : (b : Id) (n : ℕ) (a : Id) → ends n (above cs) a ≡ true → reaches n (above cs) a b ≡ reaches (suc n) (above cs) a b
  reach_later b zero a e = absurd (cc e)
  reach_later b (suc n) a e = go (superclass_of cs a) refl (λ d on. reach_later b n d on)
    where
      by : (m : ℕ) (o : Option Id) → superclass_of cs a ≡ o → reaches (suc m) (above cs) a b ≡ (id_eq a b || list_any (λ c. reaches m (above cs) c b) (listed o))
      by m o at = ap (λ o. id_eq a b || list_any (λ c. reaches m (above cs) c b) (listed o)) at

      go : (o : Option Id) → superclass_of cs a ≡ o → ((d : Id) → ends n (above cs) d ≡ true → reaches n (above cs) d b ≡ reaches (suc n) (above cs) d b) → reaches (suc n) (above cs) a b ≡ reaches (suc (suc n)) (above cs) a b
      go None top later = by n None top ∙ sym (by (suc n) None top)
      go (Some d) up later = by n (Some d) up ∙ ap (λ x. id_eq a b || (x || false)) (later d (ends_on n a d e up)) ∙ sym (by (suc n) (Some d) up)

  reach_same : (b : Id) (n : ℕ) (a d : Id) → ends n (above cs) a ≡ true → id_eq a b ≡ false → superclass_of cs a ≡ Some d → reaches n (above cs) a b ≡ reaches n (above cs) d b
  reach_same b zero a d e apart up = absurd (cc e)
  reach_same b (suc n) a d e apart up = reach_up cs a b n d apart up ∙ reach_later b n d (ends_on n a d e up)

  pub ends_up : (a d : Id) → ends cs.size (above cs) a ≡ true → superclass_of cs a ≡ Some d → ends cs.size (above cs) d ≡ true
  ends_up a d e up = ends_up_in cs.size a d e up

  pub sub_here : (a b : Id) → id_eq a b ≡ true → is_sub cs a b ≡ true
  sub_here a b same = reach_here cs a b cs.size same

  pub sub_top : (a b : Id) → id_eq a b ≡ false → superclass_of cs a ≡ None → is_sub cs a b ≡ false
  sub_top a b apart top = reach_top cs a b cs.size apart top

  pub sub_up : (a d b : Id) → ends cs.size (above cs) a ≡ true → id_eq a b ≡ false → superclass_of cs a ≡ Some d → is_sub cs a b ≡ is_sub cs d b
  sub_up a d b e apart up = reach_same b cs.size a d e apart up
