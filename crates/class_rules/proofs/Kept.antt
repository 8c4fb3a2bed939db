-- What the rules on classes, read together with the base library, give: chains end, and what stands above what.
use Rattle.std.proofs.Common.{◌≡◌, ◌⊎◌, inl, inr, ⊎_elim, ℕ, zero, suc, ◌+◌, ◌≤◌, Bool, true, false, List, [], ◌∷◌, ◌++◌, Option, Some, None, refl, sym, ap, ◌∙◌, subst, arith}
use Rattle.std.specs.Prelude.{◌&&◌, not, slice_get, unwrap_or, is_some, cond}
use Rattle.std.specs.Option.{option_map}
use Rattle.std.specs.List.{list_all, list_any, filter}
use Rattle.std.proofs.lemmas.Bool.{and_parts, or_cases, and_from, both_ways, not-true, cases_Bool}
use Rattle.plain_types.specs.declared.elem.Elem.TheVariants as elem
use Rattle.machine.specs.Data.{Id, id_eq}
use Rattle.machine.specs.Throw.{on_some}
use Rattle.machine_typed.specs.Typing.{has_body}
use Rattle.machine_typed.proofs.Heaps.{some_inv}
use Rattle.machine_typed.proofs.Types.{id_same}
use Rattle.classes.specs.Classes.{Classes, Class, OwnField, OwnMethod, Builtin}
use Rattle.classes.specs.Queries.{listed, reaches, ends, above, parents, superclass_of, interfaces_of, is_interface, methods_of, flag_eq}
use Rattle.classes.specs.Listed.{is_constructor}
use Rattle.class_rules.specs.Facts.{Order, Members}
use Rattle.class_rules.specs.Rules.{holds_some, is_user, only_if, may_be_extended, superclass_fits, is_native, constructor_fits, is_initialiser_name, initialiser_fits, method_stands_well, all_reached, Keeps}
use Rattle.class_rules.specs.Base.{IsBase}
use Rattle.class_rules.proofs.Ways.{any_at, all_at}
use Rattle.class_rules.proofs.FitsLaws.{id_here}
use Rattle.classes.specs.Reading.{IsRead}

pub holds_inv : {A : Type 0} (o : Option A) (test : A → Bool) → holds_some o test ≡ true → (a : A) × (o ≡ Some a) × (test a ≡ true)
holds_inv None test e = absurd (cc e)
holds_inv (Some a) test e = (a, refl, e)

pub only_then : (a b : Bool) → only_if a b ≡ true → a ≡ true → b ≡ true
only_then true b e h = e
only_then false b e h = absurd (cc h)

pub all_by : {A : Type 0} (test : A → Bool) (xs : List A) → ((i : ℕ) (x : A) → slice_get xs i ≡ Some x → test x ≡ true) → list_all test xs ≡ true
all_by test [] each = refl
all_by test (x ∷ xs) each = and_from (test x) (list_all test xs) (each 0 x refl) (all_by test xs (λ i y e. each (suc i) y e))

pub part_of : {A : Type 0} (o : Option Class) (f : Class → List A) (i : ℕ) (x : A) → slice_get (unwrap_or (option_map f o) []) i ≡ Some x → (k : Class) × (o ≡ Some k) × (slice_get (f k) i ≡ Some x)
part_of None f i x e = absurd (cc e)
part_of (Some k) f i x e = (k, refl, e)

pub listed_inv : {A : Type 0} (o : Option A) (i : ℕ) (d : A) → slice_get (listed o) i ≡ Some d → o ≡ Some d
listed_inv None i d e = absurd (cc e)
listed_inv (Some c) zero d e = e
listed_inv (Some c) (suc i) d e = absurd (cc e)

pub split_list : {A : Type 0} (xs ys : List A) (i : ℕ) (z : A) → slice_get (xs ++ ys) i ≡ Some z → (slice_get xs i ≡ Some z) ⊎ ((j : ℕ) × (slice_get ys j ≡ Some z))
split_list [] ys i z e = inr (i, e)
split_list (x ∷ xs) ys zero z e = inl e
split_list (x ∷ xs) ys (suc i) z e = split_list xs ys i z e

filter_by : (test : OwnField → Bool) (x : OwnField) (xs : List OwnField) → test x ≡ false → filter test xs ≡ [] → filter test (x ∷ xs) ≡ []
filter_by test x xs e h = ap (λ (z : Bool). cond z (x ∷ filter test xs) (filter test xs)) e ∙ h

pub filter_none : (test : OwnField → Bool) (xs : List OwnField) → ((i : ℕ) (x : OwnField) → slice_get xs i ≡ Some x → test x ≡ false) → filter test xs ≡ []
filter_none test [] each = refl
filter_none test (x ∷ xs) each = filter_by test x xs (each 0 x refl) (filter_none test xs (λ i y e. each (suc i) y e))

pub apart : (a b : Id) → id_eq a b ≡ false → a ≡ b → ⊥
apart a b e h = both_ways (id_eq a b) e (subst (λ z. id_eq a z ≡ true) h (id_here a))

pub ends_more : (next : Id → List Id) (a b : ℕ) (c : Id) → ends a next c ≡ true → a ≤ b → ends b next c ≡ true
ends_more next zero b c e low = absurd (cc e)
ends_more next (suc a) zero c e low = absurd (omega arith)
ends_more next (suc a) (suc b) c e low = all_by (ends b next) (next c) (λ i d h. ends_more next a b d (all_at (ends a next) (next c) i d e h) (omega arith))

-- a test that holds of all that is reached
pub all_reached_at : (next : Id → List Id) (test : Id → Bool) (m : ℕ) (c k : Id) → all_reached m next test c ≡ true → reaches m next c k ≡ true → test k ≡ true
all_reached_at next test zero c k e h = subst (λ z. test z ≡ true) (id_same c k h) e
all_reached_at next test (suc m) c k e h =
    let p = and_parts (test c) (list_all (all_reached m next test) (next c)) e in
    ⊎_elim
    (λ here. subst (λ z. test z ≡ true) (id_same c k here) p.0)
    (λ on. let r = any_at (λ d. reaches m next d k) (next c) on in all_reached_at next test m r.1 k (all_at (all_reached m next test) (next c) r.0 r.1 p.1 r.2) r.3)
    (or_cases (id_eq c k) (list_any (λ d. reaches m next d k) (next c)) h)

module _ (n : ℕ) (cs : Classes) (r : IsRead n cs) (b : IsBase cs) (k : Keeps n cs) where
  -- ---- superclasses

  pub record Extending (c d : Id) : Type 0 where
    pub from_class : is_interface cs c ≡ false
    pub to_class : is_interface cs d ≡ false
    pub low : may_be_extended cs d ≡ true

  pub extending : (c d : Id) → superclass_of cs c ≡ Some d → Extending c d
  extending c d e =
      let s = some_inv (cs.class c) (λ z. z.superclass) d e in
      let w = and_parts (superclass_fits cs c s.0 s.0.superclass) (ends n (above cs) c) (k.extends c s.0 s.1) in
      let f : superclass_fits cs c s.0 (Some d) ≡ true = subst (λ z. superclass_fits cs c s.0 z ≡ true) s.2 w.0 in
      let p = and_parts (not s.0.is_interface) (is_some (cs.class d) && (not (is_interface cs d) && only_if (is_user c) (may_be_extended cs d))) f in
      let q = and_parts (is_some (cs.class d)) (not (is_interface cs d) && only_if (is_user c) (may_be_extended cs d)) p.1 in
      let t = and_parts (not (is_interface cs d)) (only_if (is_user c) (may_be_extended cs d)) q.1 in
      record {
        from_class = ap (λ z. unwrap_or (option_map (λ k. k.is_interface) z) false) s.1 ∙ not-true s.0.is_interface p.0;
        to_class = not-true (is_interface cs d) t.0;
        low = ⊎_elim (λ u. only_then (is_user c) (may_be_extended cs d) t.1 u) (λ u. b.low c d u e) (cases_Bool (is_user c));
      }

  -- an interface has none
  pub no_super : (c : Id) → is_interface cs c ≡ true → superclass_of cs c ≡ None
  no_super c i = by (superclass_of cs c) refl
    where
      by : (o : Option Id) → superclass_of cs c ≡ o → o ≡ None
      by None e = refl
      by (Some d) e = absurd (both_ways (is_interface cs c) (extending c d e).from_class i)

  implemented : (c d : Id) (i : ℕ) → slice_get (interfaces_of cs c) i ≡ Some d → (is_interface cs d ≡ true) × (ends n (interfaces_of cs) d ≡ true)
  implemented c d i e =
      let p = part_of (cs.class c) (λ z. z.interfaces) i d e in
      and_parts (is_interface cs d) (ends n (interfaces_of cs) d) (all_at (λ j. is_interface cs j && ends n (interfaces_of cs) j) p.0.interfaces i d (k.implements c p.0 p.1) p.2)

  pub interfaces_only : (c d : Id) (i : ℕ) → slice_get (interfaces_of cs c) i ≡ Some d → is_interface cs d ≡ true
  interfaces_only c d i e = (implemented c d i e).0

  pub parent_is : (c d : Id) (i : ℕ) → slice_get (parents cs c) i ≡ Some d → (superclass_of cs c ≡ Some d) ⊎ ((j : ℕ) × (slice_get (interfaces_of cs c) j ≡ Some d))
  parent_is c d i e = ⊎_elim (λ h. inl (listed_inv (superclass_of cs c) i d h)) (λ h. inr h) (split_list (above cs c) (interfaces_of cs c) i d e)

  -- ---- chains end (24, 25)

  object_there : (z : Class) × (cs.class b.object ≡ Some z)
  object_there = by (cs.class b.object) refl
    where
      by : (o : Option Class) → cs.class b.object ≡ o → (z : Class) × (o ≡ Some z)
      by None e = absurd (let h : None ≡ Some (Builtin elem.Object) = sym (ap (option_map (λ k. k.kind)) e) ∙ r.basic_kind b.object elem.Object b.object_is in cc h)
      by (Some z) e = (z, refl)

  pub chain_ends : (c : Id) → ends n (above cs) c ≡ true
  chain_ends c = by (cs.class c) refl
    where
      some : (m : ℕ) → ends m (above cs) b.object ≡ true → superclass_of cs c ≡ None → ends m (above cs) c ≡ true
      some zero e h = absurd (cc e)
      some (suc m) e h = ap (λ z. list_all (ends m (above cs)) (listed z)) h

      by : (o : Option Class) → cs.class c ≡ o → ends n (above cs) c ≡ true
      by (Some z) e = (and_parts (superclass_fits cs c z z.superclass) (ends n (above cs) c) (k.extends c z e)).1
      by None e =
          let q = object_there in
          some n (and_parts (superclass_fits cs b.object q.0 q.0.superclass) (ends n (above cs) b.object) (k.extends b.object q.0 q.1)).1 (ap (λ z. on_some z (λ y. y.superclass)) e)

  interface_ends : (m : ℕ) (c : Id) → is_interface cs c ≡ true → ends m (interfaces_of cs) c ≡ true → ends m (parents cs) c ≡ true
  interface_ends zero c i e = e
  interface_ends (suc m) c i e =
      all_by (ends m (parents cs)) (parents cs c)
      (λ j d h.
      ⊎_elim
      (λ s. absurd (let g : None ≡ Some d = sym (no_super c i) ∙ s in cc g))
      (λ s. interface_ends m d (interfaces_only c d s.0 s.1) (all_at (ends m (interfaces_of cs)) (interfaces_of cs c) s.0 d e s.1))
      (parent_is c d j h))

  pub both_end : (m q : ℕ) (c : Id) → ends m (above cs) c ≡ true → m + n ≤ q → ends q (parents cs) c ≡ true
  both_end zero q c e low = absurd (cc e)
  both_end (suc m) zero c e low = absurd (omega arith)
  both_end (suc m) (suc q) c e low =
      all_by (ends q (parents cs)) (parents cs c)
      (λ j d h.
      ⊎_elim
      (λ s. both_end m q d (all_at (ends m (above cs)) (above cs c) 0 d e (ap (λ z. slice_get (listed z) 0) s)) (omega arith))
      (λ s. let g = implemented c d s.0 s.1 in ends_more (parents cs) n q d (interface_ends n d g.0 g.1) (omega arith))
      (parent_is c d j h))

  abbrev pub order : Order cs
  order =
      record {
        ends_above = λ c. both_end n cs.size c (chain_ends c) r.room;
        object = b.object;
        object_is = b.object_is;
        object_top = b.object_top;
        arrays = b.arrays;
        arrays_is = b.arrays_is;
        arrays_top = b.arrays_top;
      }

  -- ---- methods (29)

  pub record Standing (c : Id) (m : OwnMethod) : Type 0 where
    pub class : Class
    pub there : cs.class c ≡ Some class
    pub own : is_user c && is_native m.body ≡ false
    pub not_both : m.is_static && m.is_virtual ≡ false
    pub abstract_virtual : m.is_abstract ≡ true → m.is_virtual ≡ true
    pub bodied : m.is_abstract ≡ false → has_body m.body ≡ true
    pub constructor : is_constructor m ≡ true → constructor_fits cs c class m ≡ true
    pub initialiser : is_initialiser_name m ≡ true → initialiser_fits m ≡ true

  body_there : (a x : Bool) → flag_eq x (not a) ≡ true → a ≡ false → x ≡ true
  body_there false true e h = refl
  body_there false false e h = absurd (cc e)
  body_there true x e h = absurd (cc h)

  pub standing : (c : Id) (i : ℕ) (m : OwnMethod) → slice_get (methods_of cs c) i ≡ Some m → Standing c m
  standing c i m e =
      let p = part_of (cs.class c) (λ z. z.methods) i m e in
      let w = all_at (method_stands_well cs c p.0) p.0.methods i m (k.methods c p.0 p.1) p.2 in
      let q1 = and_parts (not (is_user c && is_native m.body)) _ w in
      let q2 = and_parts (not (m.is_static && m.is_virtual)) _ q1.1 in
      let q3 = and_parts (only_if m.is_abstract m.is_virtual) _ q2.1 in
      let q4 = and_parts (only_if m.is_abstract p.0.is_abstract) _ q3.1 in
      let q5 = and_parts (flag_eq (has_body m.body) (not m.is_abstract)) _ q4.1 in
      let q6 = and_parts (only_if (is_constructor m) (constructor_fits cs c p.0 m)) (only_if (is_initialiser_name m) (initialiser_fits m)) q5.1 in
      record {
        class = p.0;
        there = p.1;
        own = not-true (is_user c && is_native m.body) q1.0;
        not_both = not-true (m.is_static && m.is_virtual) q2.0;
        abstract_virtual = λ h. only_then m.is_abstract m.is_virtual q3.0 h;
        bodied = λ h. body_there m.is_abstract (has_body m.body) q5.0 h;
        constructor = λ h. only_then (is_constructor m) (constructor_fits cs c p.0 m) q6.0 h;
        initialiser = λ h. only_then (is_initialiser_name m) (initialiser_fits m) q6.1 h;
      }

  pub plain_body : (c : Id) (i : ℕ) (m : OwnMethod) → slice_get (methods_of cs c) i ≡ Some m → m.is_virtual ≡ false → has_body m.body ≡ true
  plain_body c i m e v =
      let s = standing c i m e in
      s.bodied (⊎_elim (λ a. absurd (both_ways m.is_virtual v (s.abstract_virtual a))) (λ a. a) (cases_Bool m.is_abstract))

  abbrev pub members : Members cs
  members = record { owner = r.owner; entry = r.entry; plain_bodies = λ c i m e v j. plain_body c i m e v }
