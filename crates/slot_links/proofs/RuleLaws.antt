-- The links of the classes of a file are those of the rules of virtual methods.
use Rattle.std.proofs.Common.{◌≡◌, ⊎_elim, ℕ, zero, suc, ◌+◌, Bool, true, false, List, [], ◌∷◌, Option, Some, None, refl, sym, ap, ◌∙◌, subst, arith}
use Rattle.std.specs.Prelude.{◌&&◌, not, if◌then◌else◌, slice_get, unwrap_or}
use Rattle.std.specs.List.{find, flat_map, list_all}
use Rattle.std.specs.Option.{option_map}
use Rattle.machine.specs.Data.{Id, id_eq, ClassOf}
use Rattle.machine.specs.Throw.{on_some}
use Rattle.machine_typed.proofs.Types.{id_same, type_here}
use Rattle.classes.specs.Classes.{OwnMethod, Class, Classes}
use Rattle.classes.specs.Queries.{listed, ends, above, superclass_of, methods_of, is_virtual_named, own_virtual, or_else, first_some, nearest, chain, chain_within, is_interface, is_or_implements}
use Rattle.class_rules.proofs.Ways.{any_at, at_any}
use Rattle.assemblies.specs.Rows.{Assembly}
use Rattle.assemblies.specs.Binding.{id_at, classes_of}
use Rattle.assemblies.proofs.Back.{get_there}
use Rattle.class_order.specs.Order.{ChainsEnd}
use Rattle.alike.proofs.Chains.{listed_ends, more_chain}
use Rattle.kept_closure.specs.Kept.{Overrides, Fills}
use Rattle.kept_rules.specs.Rules.{RowRule, TakesSlot, SlotTaken, FilledBy}
use Rattle.row_rules.specs.Links.{Link}
use Rattle.row_rules.specs.Given.{link_of, HasLink, AreRules}
use Rattle.slot_links.specs.Slots.{for_some, takes, filled_by, overrides, fills, implements, links_of, slot_links, IsReach, AreReached}
use Rattle.slot_links.specs.Rules.{AreSlotRules}
use Rattle.slot_links.proofs.Elements.{In, in_front, in_behind, in_either, in_flat, from_flat, in_some, from_some, in_slots, from_slots}

-- ---- classes

up_of : (n : ℕ) (cs : Classes) (c : Id) → (up : List Id) × (chain_within n cs c ≡ c ∷ up)
up_of zero cs c = ([], refl)
up_of (suc n) cs c = (unwrap_or (option_map (chain_within n cs) (superclass_of cs c)) [], refl)

module _ (cs : Classes) where
  class_there : (c : Id) (i : ℕ) (m : OwnMethod) → slice_get (methods_of cs c) i ≡ Some m → (k : Class) × (cs.class c ≡ Some k)
  class_there c i m e = go (cs.class c) refl e
    where
      go : (o : Option Class) → cs.class c ≡ o → slice_get (unwrap_or (option_map (λ (k : Class). k.methods) o) []) i ≡ Some m → (k : Class) × (cs.class c ≡ Some k)
      go None h e = absurd (cc e)
      go (Some k) h e = (k, h)

  module _ (m : OwnMethod) where
    -- what is above a class is found above it
    above_same : (n : ℕ) (c : Id) (up : List Id) → ends n (above cs) c ≡ true → chain_within n cs c ≡ c ∷ up → first_some (own_virtual cs m) (unwrap_or (option_map (chain_within n cs) (superclass_of cs c)) []) ≡ first_some (own_virtual cs m) up
    above_same zero c up e way = absurd (cc e)
    above_same (suc n) c up e way =
        let same : unwrap_or (option_map (chain_within n cs) (superclass_of cs c)) [] ≡ up = cc way in
        ap (first_some (own_virtual cs m)) (go (superclass_of cs c) e ∙ same)
      where
        go : (o : Option Id) → list_all (ends n (above cs)) (listed o) ≡ true → unwrap_or (option_map (chain_within (suc n) cs) o) [] ≡ unwrap_or (option_map (chain_within n cs) o) []
        go None e = refl
        go (Some d) e = sym (more_chain cs n (suc n) d (omega arith) (listed_ends (above cs) n d e))

    none_up : (n : ℕ) (c : Id) → cs.class c ≡ None → first_some (own_virtual cs m) (chain_within n cs c) ≡ None
    none_up zero c e = ap (λ (o : Option Class). or_else (find (is_virtual_named m) (unwrap_or (option_map (λ (k : Class). k.methods) o) [])) None) e
    none_up (suc n) c e =
        ap
        (λ (o : Option Class).
        or_else (find (is_virtual_named m) (unwrap_or (option_map (λ (k : Class). k.methods) o) []))
        (first_some (own_virtual cs m) (unwrap_or (option_map (chain_within n cs) (on_some o (λ (k : Class). k.superclass))) [])))
        e

    found_there : (n : ℕ) (c : Id) (x : OwnMethod) → first_some (own_virtual cs m) (chain_within n cs c) ≡ Some x → (k : Class) × (cs.class c ≡ Some k)
    found_there n c x e = go (cs.class c) refl
      where
        go : (o : Option Class) → cs.class c ≡ o → (k : Class) × (cs.class c ≡ Some k)
        go None h = absurd (let none : None ≡ Some x = sym (none_up n c h) ∙ e in cc none)
        go (Some k) h = (k, h)

module _ (size : ℕ) (ps : List Assembly) (chains : ChainsEnd (classes_of size ps)) where
  abbrev cs : Classes
  cs = classes_of size ps

  nearest_is : (c : Id) (up : List Id) (m : OwnMethod) → chain cs c ≡ c ∷ up → nearest cs m c ≡ first_some (own_virtual cs m) up
  nearest_is c up m way = above_same cs m size c up (chains c) way

  abbrev IsRule : Link → Type 0
  IsRule l = (r : RowRule size ps) × (l ≡ link_of size ps r)

  -- ---- each link is that of a rule

  takes_rule : (c : Id) (up : List Id) (m u : OwnMethod) (o : Overrides size ps c up m u) (l : Link) (k : ℕ) → slice_get (takes c m.id u.id) k ≡ Some l → IsRule l
  takes_rule c up m u o l zero e = (TakesSlot c up m u o, let same : link_of size ps (TakesSlot c up m u o) ≡ l = cc e in sym same)
  takes_rule c up m u o l (suc zero) e = (SlotTaken c up m u o, let same : link_of size ps (SlotTaken c up m u o) ≡ l = cc e in sym same)
  takes_rule c up m u o l (suc (suc k)) e = absurd (cc e)

  override_rule : (c : Id) (i : ℕ) (m : OwnMethod) (l : Link) → slice_get (methods_of cs c) i ≡ Some m → In (overrides cs c m) l → IsRule l
  override_rule c i m l at w = by m.is_virtual m.is_newslot refl refl w
    where
      by : (v n : Bool) → m.is_virtual ≡ v → m.is_newslot ≡ n → In (if v && not n then for_some (λ (u : OwnMethod). takes c m.id u.id) (nearest cs m c) else []) l → IsRule l
      by true false virtual new w =
          let u = from_some (λ (u : OwnMethod). takes c m.id u.id) (nearest cs m c) l w in
          let up = up_of size cs c in
          let o : Overrides size ps c up.0 m u.0 = record { own = (i, at); is_virtual = virtual; takes = new; above = up.1; nearest = sym (nearest_is c up.0 m up.1) ∙ u.1.0 } in
          takes_rule c up.0 m u.0 o l u.1.1.0 u.1.1.1
      by true true virtual new w = absurd (let none = w.1 in cc none)
      by false n virtual new w = absurd (let none = w.1 in cc none)

  fill_rule : (c i d : Id) (m body : OwnMethod) (o : Fills size ps c i d m body) (l : Link) (k : ℕ) → slice_get (filled_by m.id body.id d) k ≡ Some l → IsRule l
  fill_rule c i d m body o l zero e = (FilledBy c i d m body o, let same : link_of size ps (FilledBy c i d m body o) ≡ l = cc e in sym same)
  fill_rule c i d m body o l (suc k) e = absurd (cc e)

  implements_rule : (c i : Id) (l : Link) → is_interface cs c ≡ false → is_or_implements cs c i ≡ true → In (implements cs c i) l → IsRule l
  implements_rule c i l class above w = by (is_interface cs i) refl w
    where
      by : (b : Bool) → is_interface cs i ≡ b → In (if b then flat_map (fills cs c) (methods_of cs i) else []) l → IsRule l
      by false interface w = absurd (let none = w.1 in cc none)
      by true interface w =
          let m = from_flat (fills cs c) (methods_of cs i) l w.0 w.1 in
          let method = m.1.0 in
          let body = from_some (λ (body : OwnMethod). for_some (filled_by method.id body.id) (cs.method_owner body.id)) (first_some (own_virtual cs method) (chain cs c)) l m.1.1.1 in
          let d = from_some (filled_by method.id body.0.id) (cs.method_owner body.0.id) l body.1.1 in
          let o : Fills size ps c i d.0 method body.0 = record { interface = interface; no_interface = class; implements = above; asked = (m.0, m.1.1.0); owner = d.1.0; found = body.1.0 } in
          fill_rule c i d.0 method body.0 o l d.1.1.0 d.1.1.1

  class_rule : (c : Id) (ds : List Id) (l : Link) → IsReach cs c ds → In (links_of cs c ds) l → IsRule l
  class_rule c ds l reach w =
      ⊎_elim
      (λ v.
      let m = from_flat (overrides cs c) (methods_of cs c) l v.0 v.1 in
      override_rule c m.0 m.1.0 l m.1.1.0 m.1.1.1)
      (λ v. by (is_interface cs c) refl v)
      (in_either (flat_map (overrides cs c) (methods_of cs c)) (if is_interface cs c then [] else flat_map (implements cs c) ds) l w.0 w.1)
    where
      by : (b : Bool) → is_interface cs c ≡ b → In (if b then [] else flat_map (implements cs c) ds) l → IsRule l
      by true class v = absurd (let none = v.1 in cc none)
      by false class v =
          let d = from_flat (implements cs c) ds l v.0 v.1 in
          implements_rule c d.1.0 l class (sym (reach d.1.0) ∙ at_any (id_eq d.1.0) ds d.0 d.1.0 d.1.1.0 (type_here (ClassOf d.1.0))) d.1.1.1

  module _ (f : ℕ) (reached : List (List Id)) (lists : AreReached cs f reached) where
    abbrev links : List Link
    links = slot_links cs f 0 reached

    pub are : AreRules size ps links
    are k l e =
        let n = from_slots cs f 0 reached l k e in
        let place : n.0 ≡ 0 + n.0 = omega arith in
        class_rule (id_at f (0 + n.0)) n.1.0 l (subst (λ j. IsReach cs (id_at f j) n.1.0) place (lists.each n.0 n.1.0 n.1.1.0)) n.1.1.1

    -- ---- each rule has its link

    in_class : (c : Id) (k : Class) (l : Link) → cs.class c ≡ Some k → c.file ≡ f → ((ds : List Id) → IsReach cs c ds → In (links_of cs c ds) l) → In links l
    in_class c k l there here w =
        let at : id_at f c.row ≡ c = ap (λ g. id_at g c.row) (sym here) in
        let ds = get_there reached c.row (lists.all c.row k (ap cs.class at ∙ there)) in
        let reach : IsReach cs c ds.0 = subst (λ x. IsReach cs x ds.0) at (lists.each c.row ds.0 ds.1) in
        let place : 0 + c.row ≡ c.row = omega arith in
        in_slots cs f 0 reached c.row ds.0 l ds.1 (subst (λ x. In (links_of cs x ds.0) l) (sym (ap (id_at f) place ∙ at)) (w ds.0 reach))

    override_in : (c : Id) (up : List Id) (m u : OwnMethod) (o : Overrides size ps c up m u) (l : Link) → c.file ≡ f → In (takes c m.id u.id) l → In links l
    override_in c up m u o l here w =
        let own = o.own in
        let there = class_there cs c own.0 m own.1 in
        let near : nearest cs m c ≡ Some u = nearest_is c up m o.above ∙ o.nearest in
        let is : overrides cs c m ≡ takes c m.id u.id =
        ap (λ b. if b && not m.is_newslot then for_some (λ (u : OwnMethod). takes c m.id u.id) (nearest cs m c) else []) o.is_virtual
        ∙ ap (λ b. if not b then for_some (λ (u : OwnMethod). takes c m.id u.id) (nearest cs m c) else []) o.takes
        ∙ ap (for_some (λ (u : OwnMethod). takes c m.id u.id)) near in
        let v : In (flat_map (overrides cs c) (methods_of cs c)) l = in_flat (overrides cs c) (methods_of cs c) own.0 m l own.1 (subst (λ ls. In ls l) (sym is) w) in
        in_class c there.0 l there.1 here (λ ds reach. in_front (flat_map (overrides cs c) (methods_of cs c)) (if is_interface cs c then [] else flat_map (implements cs c) ds) l v.0 v.1)

    pub takes_slot : (c : Id) (up : List Id) (m u : OwnMethod) (o : Overrides size ps c up m u) → c.file ≡ f → HasLink links size ps (TakesSlot c up m u o)
    takes_slot c up m u o here = override_in c up m u o (link_of size ps (TakesSlot c up m u o)) here (0, refl)

    pub slot_taken : (c : Id) (up : List Id) (m u : OwnMethod) (o : Overrides size ps c up m u) → c.file ≡ f → HasLink links size ps (SlotTaken c up m u o)
    slot_taken c up m u o here = override_in c up m u o (link_of size ps (SlotTaken c up m u o)) here (1, refl)

    pub filled : (c i d : Id) (m body : OwnMethod) (o : Fills size ps c i d m body) → c.file ≡ f → HasLink links size ps (FilledBy c i d m body o)
    filled c i d m body o here =
        let l = link_of size ps (FilledBy c i d m body o) in
        let there = found_there cs m size c body o.found in
        let asked = o.asked in
        let one : In (fills cs c m) l =
        in_some (λ (b : OwnMethod). for_some (filled_by m.id b.id) (cs.method_owner b.id)) (first_some (own_virtual cs m) (chain cs c)) body l o.found
        (in_some (filled_by m.id body.id) (cs.method_owner body.id) d l o.owner (0, refl)) in
        let all : In (implements cs c i) l =
        subst (λ b. In (if b then flat_map (fills cs c) (methods_of cs i) else []) l) (sym o.interface)
        (in_flat (fills cs c) (methods_of cs i) asked.0 m l asked.1 one) in
        in_class c there.0 l there.1 here
        (λ ds reach.
        let w = any_at (id_eq i) ds (reach i ∙ o.implements) in
        let same : i ≡ w.1 = id_same i w.1 w.3 in
        in_behind (flat_map (overrides cs c) (methods_of cs c)) (if is_interface cs c then [] else flat_map (implements cs c) ds) l
        (subst (λ b. In (if b then [] else flat_map (implements cs c) ds) l) (sym o.no_interface)
        (in_flat (implements cs c) ds w.0 w.1 l w.2 (subst (λ x. In (implements cs c x) l) same all))))

    pub slot_rules : AreSlotRules size ps f links
    slot_rules = record { takes = takes_slot; taken = slot_taken; filled = filled; are = are }
