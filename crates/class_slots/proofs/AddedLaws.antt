-- Where each class of which objects are made has bodies for the slots that it adds, each has bodies for all its slots.
use Rattle.std.proofs.Common.{◌≡◌, ◌⊎◌, inl, inr, ⊎_elim, ℕ, zero, suc, Bool, true, false, cond, ◌&&◌, ◌||◌, List, [], ◌∷◌, ◌++◌, Option, Some, None, refl, sym, ap, ◌∙◌, subst, arith}
use Rattle.std.specs.Prelude.{not, if◌then◌else◌, slice_get, unwrap_or}
use Rattle.std.specs.List.{find, list_all, list_any}
use Rattle.std.specs.Option.{option_map}
use Rattle.std.proofs.lemmas.Bool.{and_from, and_parts, not-true, or_cases}
use Rattle.machine.specs.Data.{Id, id_eq, ClassOf}
use Rattle.machine.specs.Texts.{same_text}
use Rattle.machine.specs.Throw.{on_some}
use Rattle.machine_typed.proofs.Heaps.{some_inv}
use Rattle.machine_typed.proofs.Types.{id_same, type_here}
use Rattle.classes.specs.Classes.{Class, Classes, OwnMethod}
use Rattle.classes.specs.Queries.{reaches, ends, listed, above, superclass_of, interfaces_of, parents, chain, chain_within, first_some, is_interface, is_named, is_or_implements, is_virtual_named, method_at, method_signature_eq, methods_of, or_else, own_virtual, overridden, Search, Open, Ended, search_body, slot_search, target_by}
use Rattle.world_rows.proofs.Library.{text_same}
use Rattle.class_rules.specs.Rules.{all_reached, fills, has_body_at, holds_some, is_filled, is_slot, only_if, slots_filled}
use Rattle.class_rules.specs.Facts.{is_reference_class}
use Rattle.class_rules.proofs.Kept.{all_reached_at, ends_more, holds_inv, split_list, listed_inv}
use Rattle.class_rules.proofs.Signatures.{method_signature_same}
use Rattle.class_rules.proofs.Slots.{chain_reached, first_parent, found}
use Rattle.class_rules.proofs.Ways.{all_at, any_at, or_left, reach_up, reach_within}
use Rattle.class_reach.specs.Until.{parents_until, until}
use Rattle.class_targets.specs.Bodied.{is_bodied}
use Rattle.class_targets.proofs.SlotLaws.{above_whole, all_tested}
use Rattle.class_targets.proofs.TargetLaws.{target_owned}
use Rattle.class_slots.specs.Added.{is_made, has_objects, made_above, made_from, adds_filled, added_filled, GoUp}
use Rattle.class_slots.specs.Slots.{AreOwned}
use Rattle.class_slots.proofs.MadeLaws.{reach_here, reach_on}
use Rattle.class_slots.proofs.SlotLaws.{needed, none_needed}

-- ---- ways that end

module _ (next : Id → List Id) where
  ends_on : (k m : ℕ) (a b : Id) → ends m next a ≡ true → reaches k next a b ≡ true → ends m next b ≡ true
  ends_on zero m a b e r = subst (λ z. ends m next z ≡ true) (id_same a b r) e
  ends_on (suc k) zero a b e r = absurd (cc e)
  ends_on (suc k) (suc m) a b e r =
      ⊎_elim
      (λ here. subst (λ z. ends (suc m) next z ≡ true) (id_same a b here) e)
      (λ on.
      let w = any_at (λ c. reaches k next c b) (next a) on in
      ends_on k (suc m) w.1 b (ends_more next m (suc m) w.1 (all_at (ends m next) (next a) w.0 w.1 e w.2) (omega arith)) w.3)
      (or_cases (id_eq a b) (list_any (λ c. reaches k next c b) (next a)) r)

  -- none comes back
  no_return : (n k i : ℕ) (a b : Id) → ends n next a ≡ true → slice_get (next a) i ≡ Some b → reaches k next b a ≡ true → ⊥
  no_return zero k i a b e at r = cc e
  no_return (suc n) k i a b e at r = no_return n k i a b (ends_on k n b a (all_at (ends n next) (next a) i b e at) r) at r

here : (a : Id) → id_eq a a ≡ true
here a = type_here (ClassOf a)

module _ (cs : Classes) where
  abbrev at_body : Option Id → Bool
  at_body o = holds_some o (is_bodied cs)

  -- ---- a virtual method finds what one of its name and signature finds

  own_same : (m x : OwnMethod) (d c : Id) → own_virtual cs m d ≡ Some x → own_virtual cs x c ≡ own_virtual cs m c
  own_same m x d c e =
      let f = found (is_virtual_named m) (methods_of cs d) x e in
      let p = and_parts x.is_virtual (is_named m.name m.signature x) f.2 in
      let q = and_parts (same_text x.name m.name) (method_signature_eq x.signature m.signature) p.1 in
      let s = method_signature_same x.signature m.signature q.1 in
      ap (λ n. find (λ (y : OwnMethod). y.is_virtual && is_named n x.signature y) (methods_of cs c)) (text_same x.name m.name q.0)
      ∙ ap (λ t. find (λ (y : OwnMethod). y.is_virtual && is_named m.name t y) (methods_of cs c)) (s.1 ∙ sym s.2)

  module _ (owned : AreOwned cs) (up : GoUp cs) where
    -- ---- a class and its superclass

    module _ (c s : Id) (super : superclass_of cs c ≡ Some s) where
      there : (k : Class) × (cs.class c ≡ Some k) × (k.superclass ≡ Some s)
      there = some_inv (cs.class c) (λ k. k.superclass) s super

      ending : ends cs.size (parents cs) c ≡ true
      ending = up.ways c there.0 there.1

      whole : chain cs c ≡ c ∷ chain cs s
      whole = above_whole cs cs.size c s super (up.chains c there.0 there.1)

      reach_over : (d : Id) → is_or_implements cs s d ≡ true → is_or_implements cs c d ≡ true
      reach_over d r = reach_up (parents cs) 1 cs.size cs.size c s d ending (reach_on (parents cs) 0 0 c s s (first_parent cs c s super) (here s)) r

      apart : (d : Id) → is_or_implements cs s d ≡ true → id_eq c d ≡ false
      apart d r = go (id_eq c d) refl
        where
          go : (b : Bool) → id_eq c d ≡ b → b ≡ false
          go false e = refl
          go true e = absurd (no_return (parents cs) cs.size cs.size 0 c s ending (first_parent cs c s super) (subst (λ z. is_or_implements cs s z ≡ true) (sym (id_same c d e)) r))

    -- ---- at a class, over the nearest one above it of which objects are made

    module _ (c top : Id) where
      abbrev next : Id → List Id
      next = parents_until cs (Some top)

      -- the search of a virtual method that overrides the one that is sought, at a class whose slots have bodies
      record Over (m : OwnMethod) (s : Id) (t : Search) : Type 0 where
        class : Id
        method : OwnMethod
        own : own_virtual cs m class ≡ Some method
        search : slot_search cs class method (chain cs s) ≡ Some t
        filled : fills cs c class ≡ true
        object : is_interface cs class ≡ false
        reach : is_or_implements cs s class ≡ true

      -- so far the search has come to a body, or it is that of such a method
      abbrev Rests : OwnMethod → Id → Search → Type 0
      Rests m s t = (is_bodied cs (search_body t) ≡ true) ⊎ Over m s t

      module _ (m : OwnMethod) (s d : Id) (super : superclass_of cs s ≡ Some d) (filled : fills cs c s ≡ true) where
        begun : (x : OwnMethod) → own_virtual cs m s ≡ Some x → Over m s (Open x.id)
        begun x is =
            record {
              class = s;
              method = x;
              own = is;
              search =
                  ap (slot_search cs s x) (whole s d super)
                  ∙ ap (λ b. if b then Some (Open x.id) else option_map (overridden (own_virtual cs x s)) (slot_search cs s x (chain cs d))) (here s);
              filled = filled;
              object = up.no_super s d super;
              reach = reach_here (parents cs) cs.size s s (here s);
            }

        over_on : (t : Search) → Over m d t → Over m s (overridden (own_virtual cs m s) t)
        over_on t o =
            record {
              class = o.class;
              method = o.method;
              own = o.own;
              search =
                  ap (slot_search cs o.class o.method) (whole s d super)
                  ∙ ap (λ b. if b then Some (Open o.method.id) else option_map (overridden (own_virtual cs o.method s)) (slot_search cs o.class o.method (chain cs d))) (apart s d super o.class o.reach)
                  ∙ ap (option_map (overridden (own_virtual cs o.method s))) o.search
                  ∙ ap (λ w. Some (overridden w t)) (own_same m o.method o.class s o.own);
              filled = o.filled;
              object = o.object;
              reach = reach_over s d super o.class o.reach;
            }

        rests_on : (t : Search) → Rests m d t → Rests m s (overridden (own_virtual cs m s) t)
        rests_on t (inr o) = inr (over_on t o)
        rests_on t (inl b) = go (own_virtual cs m s) refl t b
          where
            go : (w : Option OwnMethod) → own_virtual cs m s ≡ w → (t : Search) → is_bodied cs (search_body t) ≡ true → Rests m s (overridden w t)
            go None is t b = inl b
            go (Some x) is (Ended body) b = inl b
            go (Some x) is (Open body) b = by x.is_newslot
              where
                by : (n : Bool) → Rests m s (if n then Ended body else Open x.id)
                by true = inl b
                by false = inr (begun x is)

        -- an interface's method is found at the lowest class that has one of its name and signature
        abbrev after : Option OwnMethod → Search → Search
        after None t = t
        after (Some x) t = Open x.id

        rests_after : (w : Option OwnMethod) → own_virtual cs m s ≡ w → (t : Search) → Rests m d t → Rests m s (after w t)
        rests_after None is t r = subst (λ z. Rests m s (overridden z t)) is (rests_on t r)
        rests_after (Some x) is t r = inr (begun x is)

      -- what is looked for up a class's chain is found, and rests so
      record Carried (m : OwnMethod) (look : List Id → Option Search) (s : Id) : Type 0 where
        ends_up : ends cs.size (parents cs) s ≡ true
        reach : is_or_implements cs s top ≡ true
        search : Search
        is : look (chain cs s) ≡ Some search
        rests : Rests m s search

      -- ---- up from the class to before that one

      module _ (P : Id → Type 0) (step : (s d : Id) → superclass_of cs s ≡ Some d → fills cs c s ≡ true → P d → P s) (base : P top) where
        abbrev tested : ℕ → Id → Bool
        tested j = all_reached j next (fills cs c)

        abbrev seek : ℕ → Id → Option Id
        seek k s = find (has_objects cs) (unwrap_or (option_map (chain_within k cs) (superclass_of cs s)) [])

        up_from : (j k : ℕ) (s : Id) → ((d : Id) → id_eq d top ≡ false → ends j (above cs) d ≡ true → tested j d ≡ true → find (has_objects cs) (chain_within k cs d) ≡ Some top → P d) → ends (suc j) (above cs) s ≡ true → tested (suc j) s ≡ true → seek k s ≡ Some top → P s
        up_from j k s rest e t f = go (superclass_of cs s) refl
          where
            own : (fills cs c s ≡ true) × (list_all (tested j) (next s) ≡ true)
            own = and_parts (fills cs c s) (list_all (tested j) (next s)) t

            above_top : (d : Id) → superclass_of cs s ≡ Some d → (b : Bool) → id_eq d top ≡ b → P s
            above_top d super true same = step s d super own.0 (subst P (sym (id_same d top same)) base)
            above_top d super false other =
                let on : list_all (ends j (above cs)) (listed (Some d)) ≡ true = sym (ap (λ o. list_all (ends j (above cs)) (listed o)) super) ∙ e in
                let there : slice_get (next s) 0 ≡ Some d = ap (λ o. slice_get (listed (until (Some top) o) ++ interfaces_of cs s) 0) super ∙ ap (λ b. slice_get (listed (if b then None else Some d) ++ interfaces_of cs s) 0) other in
                step s d super own.0
                (rest d other (and_parts (ends j (above cs) d) true on).0 (all_at (tested j) (next s) 0 d own.1 there) (sym (ap (λ o. find (has_objects cs) (unwrap_or (option_map (chain_within k cs) o) [])) super) ∙ f))

            go : (o : Option Id) → superclass_of cs s ≡ o → P s
            go None none = absurd (let nothing : None ≡ Some top = sym (ap (λ o. find (has_objects cs) (unwrap_or (option_map (chain_within k cs) o) [])) none) ∙ f in cc nothing)
            go (Some d) super = above_top d super (id_eq d top) refl

        -- of a class that is not that one the search goes on
        passed : (s : Id) → id_eq s top ≡ false → (xs : List Id) → find (has_objects cs) (s ∷ xs) ≡ Some top → find (has_objects cs) xs ≡ Some top
        passed s other xs h = go (has_objects cs s) h
          where
            go : (b : Bool) → cond b (Some s) (find (has_objects cs) xs) ≡ Some top → find (has_objects cs) xs ≡ Some top
            go false h = h
            go true h = absurd (let same : s ≡ top = cc h in let yes : id_eq s top ≡ true = subst (λ z. id_eq s z ≡ true) same (here s) in cc (sym other ∙ yes))

        climb : (j k : ℕ) (s : Id) → id_eq s top ≡ false → ends j (above cs) s ≡ true → tested j s ≡ true → find (has_objects cs) (chain_within k cs s) ≡ Some top → P s
        climb zero k s other e t f = absurd (cc e)
        climb (suc j) zero s other e t f = absurd (let nothing : None ≡ Some top = passed s other [] f in cc nothing)
        climb (suc j) (suc k) s other e t f = up_from j k s (λ d. climb j k d) e t (passed s other (unwrap_or (option_map (chain_within k cs) (superclass_of cs s)) []) f)

        pub all_way : ends cs.size (above cs) c ≡ true → tested cs.size c ≡ true → made_above cs c ≡ Some top → P c
        all_way e t f = go cs.size e t (sought (superclass_of cs c) f)
          where
            sought : (o : Option Id) → on_some o (made_from cs) ≡ Some top → find (has_objects cs) (unwrap_or (option_map (chain cs) o) []) ≡ Some top
            sought None h = absurd (cc h)
            sought (Some s) h = h

            go : (n : ℕ) → ends n (above cs) c ≡ true → tested n c ≡ true → seek cs.size c ≡ Some top → P c
            go zero e t f = absurd (cc e)
            go (suc j) e t f = up_from j cs.size c (λ d. climb j cs.size d) e t f

      -- ---- the slots that have bodies at that class

      module _ (own : (k : Class) × (cs.class c ≡ Some k)) (object : is_interface cs c ≡ false) (above_is : made_above cs c ≡ Some top) (top_there : (k : Class) × (cs.class top ≡ Some k)) (tested_all : all_reached cs.size next (fills cs c) c ≡ true) where
        top_ends : ends cs.size (parents cs) top ≡ true
        top_ends = up.ways top top_there.0 top_there.1

        from_top : (d s : Id) → is_or_implements cs top d ≡ true → ends cs.size (parents cs) s ≡ true → is_or_implements cs s top ≡ true → is_or_implements cs s d ≡ true
        from_top d s r e over = reach_up (parents cs) cs.size cs.size cs.size s top d e over r

        module _ (d : Id) (m : OwnMethod) (reached : is_or_implements cs top d ≡ true) where
          based : (look : List Id → Option Search) (t : Search) → look (chain cs top) ≡ Some t → is_bodied cs (search_body t) ≡ true → Carried m look top
          based look t is bodied = record { ends_up = top_ends; reach = reach_here (parents cs) cs.size top top (here top); search = t; is = is; rests = inl bodied }

          -- a class's method
          class_step : (s z : Id) → superclass_of cs s ≡ Some z → fills cs c s ≡ true → Carried m (slot_search cs d m) z → Carried m (slot_search cs d m) s
          class_step s z super filled p =
              record {
                ends_up = ending s z super;
                reach = reach_over s z super top p.reach;
                search = overridden (own_virtual cs m s) p.search;
                is =
                    ap (slot_search cs d m) (whole s z super)
                    ∙ ap (λ b. if b then Some (Open m.id) else option_map (overridden (own_virtual cs m s)) (slot_search cs d m (chain cs z))) (apart s z super d (from_top d z reached p.ends_up p.reach))
                    ∙ ap (option_map (overridden (own_virtual cs m s))) p.is;
                rests = rests_on m s z super filled p.search p.rests;
              }

          -- an interface's
          abbrev lowest : List Id → Option Search
          lowest xs = option_map (λ (x : OwnMethod). Open x.id) (first_some (own_virtual cs m) xs)

          interface_step : (s z : Id) → superclass_of cs s ≡ Some z → fills cs c s ≡ true → Carried m lowest z → Carried m lowest s
          interface_step s z super filled p =
              record {
                ends_up = ending s z super;
                reach = reach_over s z super top p.reach;
                search = after m s z super filled (own_virtual cs m s) p.search;
                is = ap lowest (whole s z super) ∙ first (own_virtual cs m s);
                rests = rests_after m s z super filled (own_virtual cs m s) refl p.search p.rests;
              }
            where
              first : (w : Option OwnMethod) → option_map (λ (x : OwnMethod). Open x.id) (or_else w (first_some (own_virtual cs m) (chain cs z))) ≡ Some (after m s z super filled w p.search)
              first None = p.is
              first (Some x) = refl

          -- where the search rests so at the class itself, it has come to a body
          settled : (t : Search) → Rests m c t → is_bodied cs (search_body t) ≡ true
          settled t (inl bodied) = bodied
          settled t (inr o) =
              let x = o.method in
              let f = found (is_virtual_named m) (methods_of cs o.class) x o.own in
              let virtual = (and_parts x.is_virtual (is_named m.name m.signature x) f.2).0 in
              let own = owned o.class f.0 x f.1 in
              let test = all_at (λ z. only_if (is_slot cs o.class z) (has_body_at cs c z)) (methods_of cs o.class) f.0 x o.filled f.1 in
              let slot : is_slot cs o.class x ≡ true = and_from (not x.is_static) (x.is_virtual || is_interface cs o.class) (ap not (up.virtual o.class f.0 x f.1 virtual)) (or_left x.is_virtual (is_interface cs o.class) virtual) in
              let has : has_body_at cs c x ≡ true = sym (ap (λ b. only_if b (has_body_at cs c x)) slot) ∙ test in
              sym
              (ap at_body
              (target_owned cs c x.id o.class x own.0 own.1
              ∙ ap (λ b. target_by cs b (is_or_implements cs c o.class && not (is_interface cs c)) o.class x (chain cs c)) o.object
              ∙ ap (λ b. if b then option_map search_body (slot_search cs o.class x (chain cs c)) else Some x.id) virtual
              ∙ ap (option_map search_body) o.search))
              ∙ has

          carried : (look : List Id → Option Search) → ((s z : Id) → superclass_of cs s ≡ Some z → fills cs c s ≡ true → Carried m look z → Carried m look s) → Carried m look top → Carried m look c
          carried look step base = all_way (Carried m look) step base (up.chains c own.0 own.1) tested_all above_is

          by_class : (v : Bool) → at_body (if v then option_map search_body (slot_search cs d m (chain cs top)) else Some m.id) ≡ true → at_body (if v then option_map search_body (slot_search cs d m (chain cs c)) else Some m.id) ≡ true
          by_class false h = h
          by_class true h = go (slot_search cs d m (chain cs top)) refl h
            where
              go : (o : Option Search) → slot_search cs d m (chain cs top) ≡ o → at_body (option_map search_body o) ≡ true → at_body (option_map search_body (slot_search cs d m (chain cs c))) ≡ true
              go None is h = absurd (cc h)
              go (Some t) is h =
                  let p = carried (slot_search cs d m) class_step (based (slot_search cs d m) t is h) in
                  ap (λ o. at_body (option_map search_body o)) p.is ∙ settled p.search p.rests

          by_interface : (there : Bool) → at_body (if there then option_map (λ (x : OwnMethod). x.id) (first_some (own_virtual cs m) (chain cs top)) else None) ≡ true → at_body (if is_or_implements cs c d && not (is_interface cs c) then option_map (λ (x : OwnMethod). x.id) (first_some (own_virtual cs m) (chain cs c)) else None) ≡ true
          by_interface false h = absurd (cc h)
          by_interface true h = go (first_some (own_virtual cs m) (chain cs top)) refl h
            where
              flat : (o : Option OwnMethod) → option_map search_body (option_map (λ (x : OwnMethod). Open x.id) o) ≡ option_map (λ (x : OwnMethod). x.id) o
              flat None = refl
              flat (Some x) = refl

              go : (o : Option OwnMethod) → first_some (own_virtual cs m) (chain cs top) ≡ o → at_body (option_map (λ (x : OwnMethod). x.id) o) ≡ true → at_body (if is_or_implements cs c d && not (is_interface cs c) then option_map (λ (x : OwnMethod). x.id) (first_some (own_virtual cs m) (chain cs c)) else None) ≡ true
              go None is h = absurd (cc h)
              go (Some x) is h =
                  let p = carried lowest interface_step (based lowest (Open x.id) (ap (option_map (λ (x : OwnMethod). Open x.id)) is) h) in
                  let implements : (is_or_implements cs c d && not (is_interface cs c)) ≡ true = and_from (is_or_implements cs c d) (not (is_interface cs c)) (from_top d c reached p.ends_up p.reach) (ap not object) in
                  ap (λ b. at_body (if b then option_map (λ (x : OwnMethod). x.id) (first_some (own_virtual cs m) (chain cs c)) else None)) implements
                  ∙ ap at_body (sym (flat (first_some (own_virtual cs m) (chain cs c))))
                  ∙ ap (λ o. at_body (option_map search_body o)) p.is
                  ∙ settled p.search p.rests

          both : (interface : Bool) → at_body (target_by cs interface (is_or_implements cs top d && not (is_interface cs top)) d m (chain cs top)) ≡ true → at_body (target_by cs interface (is_or_implements cs c d && not (is_interface cs c)) d m (chain cs c)) ≡ true
          both true h = by_interface (is_or_implements cs top d && not (is_interface cs top)) h
          both false h = by_class m.is_virtual h

          body_carried : cs.method_owner m.id ≡ Some d → method_at cs m.id ≡ Some m → has_body_at cs top m ≡ true → has_body_at cs c m ≡ true
          body_carried is_owner entry h =
              ap at_body (target_owned cs c m.id d m is_owner entry)
              ∙ both (is_interface cs d) (sym (ap at_body (target_owned cs top m.id d m is_owner entry)) ∙ h)

        fills_carried : (d : Id) → is_or_implements cs top d ≡ true → fills cs top d ≡ true → fills cs c d ≡ true
        fills_carried d r e = go (methods_of cs d) (owned d) e
          where
            slot : (m : OwnMethod) (b : Bool) → (cs.method_owner m.id ≡ Some d) × (method_at cs m.id ≡ Some m) → only_if b (has_body_at cs top m) ≡ true → only_if b (has_body_at cs c m) ≡ true
            slot m false w h = refl
            slot m true w h = body_carried d m r w.0 w.1 h

            go : (ms : List OwnMethod) → ((i : ℕ) (m : OwnMethod) → slice_get ms i ≡ Some m → (cs.method_owner m.id ≡ Some d) × (method_at cs m.id ≡ Some m)) → list_all (λ m. only_if (is_slot cs d m) (has_body_at cs top m)) ms ≡ true → list_all (λ m. only_if (is_slot cs d m) (has_body_at cs c m)) ms ≡ true
            go [] w h = refl
            go (m ∷ ms) w h =
                let both = and_parts (only_if (is_slot cs d m) (has_body_at cs top m)) (list_all (λ x. only_if (is_slot cs d x) (has_body_at cs top x)) ms) h in
                and_from (only_if (is_slot cs d m) (has_body_at cs c m)) (list_all (λ x. only_if (is_slot cs d x) (has_body_at cs c x)) ms) (slot m (is_slot cs d m) (w 0 m refl) both.0) (go ms (λ i x at. w (suc i) x at) both.1)

        -- what is reached is reached to before that class, or by it
        abbrev Either : ℕ → Id → Id → Type 0
        Either n a d = (reaches n next a d ≡ true) ⊎ (is_or_implements cs top d ≡ true)

        split_on : (n : ℕ) (a d : Id) → ((z : Id) → reaches n (parents cs) z d ≡ true → Either n z d) → (i : ℕ) (z : Id) → slice_get (parents cs a) i ≡ Some z → reaches n (parents cs) z d ≡ true → Either (suc n) a d
        split_on n a d rest i z at h =
            ⊎_elim (λ first. over z (listed_inv (superclass_of cs a) i z first) h (id_eq z top) refl)
            (λ later. let b = behind (listed (until (Some top) (superclass_of cs a))) (interfaces_of cs a) later.0 z later.1 in other b.0 z b.1 (rest z h))
            (split_list (above cs a) (interfaces_of cs a) i z at)
          where
            other : (i : ℕ) (z : Id) → slice_get (next a) i ≡ Some z → Either n z d → Either (suc n) a d
            other i z at (inl h) = inl (reach_on next n i a d z at h)
            other i z at (inr h) = inr h

            behind : (xs ys : List Id) (i : ℕ) (z : Id) → slice_get ys i ≡ Some z → (j : ℕ) × (slice_get (xs ++ ys) j ≡ Some z)
            behind [] ys i z at = (i, at)
            behind (x ∷ xs) ys i z at = let b = behind xs ys i z at in (suc b.0, b.1)

            over : (z : Id) → superclass_of cs a ≡ Some z → reaches n (parents cs) z d ≡ true → (b : Bool) → id_eq z top ≡ b → Either (suc n) a d
            over z super h true same = inr (reach_within (parents cs) n cs.size top d top_ends (subst (λ y. reaches n (parents cs) y d ≡ true) (id_same z top same) h))
            over z super h false differs =
                let there : slice_get (next a) 0 ≡ Some z = ap (λ o. slice_get (listed (until (Some top) o) ++ interfaces_of cs a) 0) super ∙ ap (λ b. slice_get (listed (if b then None else Some z) ++ interfaces_of cs a) 0) differs in
                other 0 z there (rest z h)

        split : (n : ℕ) (a d : Id) → reaches n (parents cs) a d ≡ true → Either n a d
        split zero a d r = inl r
        split (suc n) a d r =
            ⊎_elim (λ same. inl (reach_here next (suc n) a d same))
            (λ on. let w = any_at (λ z. reaches n (parents cs) z d) (parents cs a) on in split_on n a d (λ z. split n z d) w.0 w.1 w.2 w.3)
            (or_cases (id_eq a d) (list_any (λ z. reaches n (parents cs) z d) (parents cs a)) r)

        filled_on : is_filled cs top ≡ true → is_filled cs c ≡ true
        filled_on filled =
            all_tested (parents cs) (fills cs c) cs.size c
            (λ d r.
            ⊎_elim (λ low. all_reached_at next (fills cs c) cs.size c d tested_all low)
            (λ high. fills_carried d high (all_reached_at (parents cs) (fills cs top) cs.size top d filled high))
            (split cs.size c d r))

    -- ---- all classes

    module _ (kept : (c : Id) (k : Class) → cs.class c ≡ Some k → added_filled cs c k ≡ true) where
      adds : (c : Id) (k : Class) → cs.class c ≡ Some k → is_made cs c k ≡ true → adds_filled cs c ≡ true
      adds c k there made = sym (needed k.is_interface (k.is_abstract && is_reference_class cs c) (adds_filled cs c) (not-true (k.is_interface || (k.is_abstract && is_reference_class cs c)) made)) ∙ kept c k there

      made_object : (c : Id) (k : Class) → cs.class c ≡ Some k → is_made cs c k ≡ true → is_interface cs c ≡ false
      made_object c k there made =
          ap (λ o. unwrap_or (option_map (λ (z : Class). z.is_interface) o) false) there
          ∙ left_false k.is_interface (k.is_abstract && is_reference_class cs c) (not-true (k.is_interface || (k.is_abstract && is_reference_class cs c)) made)
        where
          left_false : (a b : Bool) → a || b ≡ false → a ≡ false
          left_false false b e = refl
          left_false true b e = e

      filled_over : (n : ℕ) (c : Id) (k : Class) → cs.class c ≡ Some k → is_made cs c k ≡ true → ends (suc n) (parents cs) c ≡ true → ((top : Id) (z : Class) → cs.class top ≡ Some z → is_made cs top z ≡ true → ends n (parents cs) top ≡ true → is_filled cs top ≡ true) → is_filled cs c ≡ true
      filled_over n c k there made e rest = go (made_above cs c) refl
        where
          highest : (s : Id) → superclass_of cs c ≡ Some s → (top : Id) (i : ℕ) → slice_get (chain_within cs.size cs s) i ≡ Some top → ends n (parents cs) top ≡ true
          highest s super top i at = ends_on (parents cs) cs.size n s top (all_at (ends n (parents cs)) (parents cs c) 0 s e (first_parent cs c s super)) (chain_reached cs cs.size i s top at)

          go : (o : Option Id) → made_above cs c ≡ o → is_filled cs c ≡ true
          go None is = subst (λ o. all_reached cs.size (parents_until cs o) (fills cs c) c ≡ true) is (adds c k there made)
          go (Some top) is =
              let s = some_inv (superclass_of cs c) (made_from cs) top is in
              let f = found (has_objects cs) (chain cs s.0) top s.2 in
              let h = holds_inv (cs.class top) (is_made cs top) f.2 in
              filled_on c top (k, there) (made_object c k there made) is (h.0, h.1) (subst (λ o. all_reached cs.size (parents_until cs o) (fills cs c) c ≡ true) is (adds c k there made)) (rest top h.0 h.1 h.2 (highest s.0 s.1 top f.0 f.1))

      filled_within : (n : ℕ) (c : Id) (k : Class) → cs.class c ≡ Some k → is_made cs c k ≡ true → ends n (parents cs) c ≡ true → is_filled cs c ≡ true
      filled_within zero c k there made e = absurd (cc e)
      filled_within (suc n) c k there made e = filled_over n c k there made e (λ top z. filled_within n top z)

      pub all_filled : (c : Id) (k : Class) → cs.class c ≡ Some k → slots_filled cs c k ≡ true
      all_filled c k there = go (k.is_interface || (k.is_abstract && is_reference_class cs c)) refl
        where
          go : (b : Bool) → k.is_interface || (k.is_abstract && is_reference_class cs c) ≡ b → slots_filled cs c k ≡ true
          go true e = none_needed k.is_interface (k.is_abstract && is_reference_class cs c) (is_filled cs c) e
          go false e = needed k.is_interface (k.is_abstract && is_reference_class cs c) (is_filled cs c) e ∙ filled_within cs.size c k there (ap not e) (up.ways c k there)
