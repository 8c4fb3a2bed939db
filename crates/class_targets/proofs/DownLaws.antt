-- A search that comes down from a method's class, told by the way up from the object's one.
use Rattle.std.proofs.Common.{◌≡◌, ℕ, zero, suc, ◌-◌, Bool, true, false, List, [], ◌∷◌, Option, Some, None, refl, sym, ap, ◌∙◌, arith}
use Rattle.std.specs.Prelude.{if◌then◌else◌, unwrap_or}
use Rattle.std.specs.Option.{option_map}
use Rattle.machine.specs.Data.{Id, id_eq}
use Rattle.classes.specs.Classes.{Classes, OwnMethod}
use Rattle.classes.specs.Queries.{superclass_of, chain_within, own_virtual, or_else, first_some, Search, Open, Ended, search_body, overridden, slot_search}
use Rattle.class_targets.specs.Virtual.{slot_of}
use Rattle.class_targets.specs.Down.{decided, settled}

pub settled_more : (o : Option OwnMethod) (below : Option Id) (s : Search) → settled (decided (option_map slot_of o) below) s ≡ settled below (overridden o s)
settled_more None below s = refl
settled_more (Some x) below (Ended body) = ended x.is_newslot (or_else below (Some x.id)) below
  where
    ended : (b : Bool) (on below : Option Id) → settled (if b then None else on) (Ended body) ≡ settled below (Ended body)
    ended true on None = refl
    ended true on (Some y) = refl
    ended false None None = refl
    ended false None (Some y) = refl
    ended false (Some z) None = refl
    ended false (Some z) (Some y) = refl
settled_more (Some x) below (Open body) = open_one x.is_newslot below
  where
    open_one : (b : Bool) (below : Option Id) → settled (if b then None else or_else below (Some x.id)) (Open body) ≡ settled below (if b then Ended body else Open x.id)
    open_one true None = refl
    open_one true (Some y) = refl
    open_one false None = refl
    open_one false (Some y) = refl

pub settled_open : (below : Option Id) (body : Id) → settled below (Open body) ≡ unwrap_or below body
settled_open None body = refl
settled_open (Some y) body = refl

map_both : {A B C : Type 0} (f : B → C) (g : A → B) (h : A → C) → ((x : A) → h x ≡ f (g x)) → (o : Option A) → option_map h o ≡ option_map f (option_map g o)
map_both f g h same None = refl
map_both f g h same (Some x) = ap Some (same x)

module _ (cs : Classes) (m : OwnMethod) where
  -- ---- a class's method

  module _ (owner : Id) where
    abbrev pub search : ℕ → Id → Option Search
    search n c = slot_search cs owner m (chain_within n cs c)

    one_class : (b : Bool) (c : Id) (up : List Id) → id_eq c owner ≡ b → slot_search cs owner m (c ∷ up) ≡ (if b then Some (Open m.id) else option_map (overridden (own_virtual cs m c)) (slot_search cs owner m up))
    one_class b c up e = ap (λ t. if t then Some (Open m.id) else option_map (overridden (own_virtual cs m c)) (slot_search cs owner m up)) e

    pub search_all : (n : ℕ) (c : Id) → option_map search_body (search n c) ≡ option_map (settled None) (search n c)
    search_all n c = refl

    pub search_here : (n : ℕ) (c : Id) (below : Option Id) → id_eq c owner ≡ true → option_map (settled below) (search n c) ≡ Some (unwrap_or below m.id)
    search_here zero c below e = ap (option_map (settled below)) (one_class true c [] e) ∙ ap Some (settled_open below m.id)
    search_here (suc n) c below e = ap (option_map (settled below)) (one_class true c (unwrap_or (option_map (chain_within n cs) (superclass_of cs c)) []) e) ∙ ap Some (settled_open below m.id)

    pub search_ends : (c : Id) (below : Option Id) → id_eq c owner ≡ false → option_map (settled below) (search zero c) ≡ None
    search_ends c below e = ap (option_map (settled below)) (one_class false c [] e)

    pub search_top : (n : ℕ) (c : Id) (below : Option Id) → id_eq c owner ≡ false → superclass_of cs c ≡ None → option_map (settled below) (search n c) ≡ None
    search_top zero c below e s = search_ends c below e
    search_top (suc n) c below e s =
        ap (option_map (settled below)) (one_class false c (unwrap_or (option_map (chain_within n cs) (superclass_of cs c)) []) e)
        ∙ ap (λ o. option_map (settled below) (option_map (overridden (own_virtual cs m c)) (slot_search cs owner m (unwrap_or (option_map (chain_within n cs) o) [])))) s

    pub search_on : (n : ℕ) (c next : Id) (below : Option Id) → id_eq c owner ≡ false → (n ≡ 0 → ⊥) → superclass_of cs c ≡ Some next → option_map (settled below) (search n c) ≡ option_map (settled (decided (option_map slot_of (own_virtual cs m c)) below)) (search (n - 1) next)
    search_on zero c next below e more s = absurd (more refl)
    search_on (suc n) c next below e more s =
        let less : n ≡ suc n - 1 = omega arith in
        ap (option_map (settled below)) (one_class false c (unwrap_or (option_map (chain_within n cs) (superclass_of cs c)) []) e)
        ∙ ap (λ o. option_map (settled below) (option_map (overridden (own_virtual cs m c)) (slot_search cs owner m (unwrap_or (option_map (chain_within n cs) o) [])))) s
        ∙ sym (map_both (settled below) (overridden (own_virtual cs m c)) (settled (decided (option_map slot_of (own_virtual cs m c)) below)) (settled_more (own_virtual cs m c) below) (search n next))
        ∙ ap (λ k. option_map (settled (decided (option_map slot_of (own_virtual cs m c)) below)) (search k next)) less

  -- ---- an interface's method

  abbrev pub first_up : ℕ → Id → Option OwnMethod
  first_up n c = first_some (own_virtual cs m) (chain_within n cs c)

  pub first_here : (n : ℕ) (c : Id) (x : OwnMethod) → own_virtual cs m c ≡ Some x → first_up n c ≡ Some x
  first_here zero c x e = ap (λ o. or_else o None) e
  first_here (suc n) c x e = ap (λ o. or_else o (first_some (own_virtual cs m) (unwrap_or (option_map (chain_within n cs) (superclass_of cs c)) []))) e

  pub first_ends : (c : Id) → own_virtual cs m c ≡ None → first_up zero c ≡ None
  first_ends c e = ap (λ o. or_else o None) e

  pub first_top : (n : ℕ) (c : Id) → own_virtual cs m c ≡ None → superclass_of cs c ≡ None → first_up n c ≡ None
  first_top zero c e s = first_ends c e
  first_top (suc n) c e s =
      ap (λ o. or_else o (first_some (own_virtual cs m) (unwrap_or (option_map (chain_within n cs) (superclass_of cs c)) []))) e
      ∙ ap (λ o. first_some (own_virtual cs m) (unwrap_or (option_map (chain_within n cs) o) [])) s

  pub first_on : (n : ℕ) (c next : Id) → own_virtual cs m c ≡ None → (n ≡ 0 → ⊥) → superclass_of cs c ≡ Some next → first_up n c ≡ first_up (n - 1) next
  first_on zero c next e more s = absurd (more refl)
  first_on (suc n) c next e more s =
      let less : n ≡ suc n - 1 = omega arith in
      ap (λ o. or_else o (first_some (own_virtual cs m) (unwrap_or (option_map (chain_within n cs) (superclass_of cs c)) []))) e
      ∙ ap (λ o. first_some (own_virtual cs m) (unwrap_or (option_map (chain_within n cs) o) [])) s
      ∙ ap (λ k. first_up k next) less
