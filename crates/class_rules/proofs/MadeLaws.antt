-- The types of which objects are made keep what the laws of classes ask: the kinds, and a class under Object with all slots filled.
use Rattle.std.proofs.Common.{◌≡◌, ◌⊎◌, inl, inr, ⊎_elim, ℕ, suc, Bool, true, false, [], Option, Some, None, refl, sym, ap, ◌∙◌, subst}
use Rattle.std.specs.Prelude.{◌&&◌, ◌||◌, not, unwrap_or, is_some}
use Rattle.std.specs.Option.{option_map}
use Rattle.std.proofs.lemmas.Bool.{and_parts, or_cases, and_from, both_ways, not-true, cases_Bool}
use Rattle.plain_types.specs.declared.elem.Elem.{Elem}
use Rattle.plain_types.specs.declared.elem.Elem.TheVariants as elem
use Rattle.machine.specs.Data.{Id, id_eq, CliType, Basic, EnumOf, ClassOf, ValueOf, ArrayOf, Cell, cell_of, elem_cell, type_eq}
use Rattle.machine_typed.specs.Typing.{is_refers, is_number, is_bits, is_plain, has_body}
use Rattle.machine_typed.proofs.Heaps.{some_inv}
use Rattle.machine_typed.proofs.Types.{type_same}
use Rattle.classes.specs.Classes.{Classes, Class, TypeKind, Reference, Builtin, Enumeration, OtherValue}
use Rattle.classes.specs.Queries.{reaches, parents, superclass_of, is_interface, is_or_implements, is_sub, basic, array, some_eq, class_of, type_by_kind, type_of_class, methods_of, method_at, instance_fields, target, kind_of}
use Rattle.class_rules.specs.Facts.{Order, Filled, Objects, Kinds, is_reference_class, class_of_object, is_instance_type}
use Rattle.class_rules.specs.Rules.{holds_some, only_if, has_body_at, is_slot, fills, is_filled, under_object, Keeps}
use Rattle.class_rules.specs.Made.{is_made, made}
use Rattle.class_rules.specs.Base.{IsBase}
use Rattle.class_rules.proofs.Ways.{or_left, or_right, at_any, all_at, reach_within}
use Rattle.class_rules.proofs.Slots.{first_parent}
use Rattle.class_rules.proofs.FitsLaws.{id_here, both_some}
use Rattle.class_rules.proofs.MergeLaws.{sub_reaches}
use Rattle.class_rules.proofs.Kept.{holds_inv, only_then, all_reached_at, no_super, interfaces_only, order}
use Rattle.class_rules.proofs.Low.{bits_no_reference, type_is, class_back, basic_type, no_interface, Low, Under, low_way, class_way, value_low, string_low, arrays_super, Bare, bare_under, object_bare, value_bare, enums_bare, interface_bare}
use Rattle.classes.specs.Reading.{IsRead}

bits_plain : (e : Elem) → is_bits (elem_cell e) ≡ true → is_some (elem_cell e) ≡ true
bits_plain e h = by (elem_cell e) h
  where
    by : (q : Option Cell) → is_bits q ≡ true → is_some q ≡ true
    by (Some c) h = refl
    by None h = absurd (cc h)

slot_here : (s v i : Bool) → s ≡ false → (v ≡ true) ⊎ (i ≡ true) → (not s && (v || i)) ≡ true
slot_here s v i e (inl h) = and_from (not s) (v || i) (ap not e) (or_left v i h)
slot_here s v i e (inr h) = and_from (not s) (v || i) (ap not e) (or_right v i h)

seen_slots : (i a q f : Bool) → i || ((a && q) || f) ≡ true → i ≡ false → a && q ≡ false → f ≡ true
seen_slots true a q f e h g = absurd (cc h)
seen_slots false a q f e h g = ⊎_elim (λ y. absurd (both_ways (a && q) g y)) (λ y. y) (or_cases (a && q) f e)

module _ (n : ℕ) (cs : Classes) (r : IsRead n cs) (b : IsBase cs) (k : Keeps n cs) where
  abbrev o : Order cs
  o = order n cs r b k

  -- ---- kinds of made types

  pub enum_kind : (e : Elem) (c : Id) → type_of_class cs c ≡ EnumOf e c → kind_of cs c ≡ Some (Enumeration e)
  enum_kind e c h = by (kind_of cs c) h
    where
      by : (q : Option TypeKind) → type_by_kind q c ≡ EnumOf e c → q ≡ Some (Enumeration e)
      by None h = absurd (cc h)
      by (Some Reference) h = absurd (cc h)
      by (Some (Builtin g)) h = absurd (cc h)
      by (Some (Enumeration g)) h = let same : g ≡ e = cc h in ap (λ z. Some (Enumeration z)) same
      by (Some OtherValue) h = absurd (cc h)

  pub made_enum : (e : Elem) (c : Id) → made cs (EnumOf e c) ≡ true → (is_number (EnumOf e c) ≡ true) × (type_of_class cs c ≡ EnumOf e c)
  made_enum e c h = let p = and_parts (is_number (EnumOf e c)) (type_eq (type_of_class cs c) (EnumOf e c)) h in (p.0, type_same (type_of_class cs c) (EnumOf e c) p.1)

  pub made_basic : (e : Elem) → made cs (Basic e) ≡ true → (is_number (Basic e) ≡ true) ⊎ (e ≡ elem.String)
  made_basic e h = ⊎_elim (λ g. inl g) (λ g. inr (let same : Basic e ≡ Basic elem.String = type_same (Basic e) (Basic elem.String) g in cc same)) (or_cases (is_number (Basic e)) (type_eq (Basic e) (Basic elem.String)) h)

  pub record Instance (c : Id) : Type 0 where
    pub class : Class
    pub there : cs.class c ≡ Some class
    pub whole : class.is_abstract ≡ false
    pub no_interface : class.is_interface ≡ false
    pub reference : is_reference_class cs c ≡ true
    pub not_string : some_eq (Some c) (basic cs elem.String) ≡ false
    pub not_arrays : some_eq (Some c) (array cs) ≡ false
    pub under : is_sub cs c b.object ≡ true

  pub instance_of : (c : Id) → made cs (ClassOf c) ≡ true → Instance c
  instance_of c h =
      let p = and_parts (is_made cs c) (under_object cs c) h in
      let q = and_parts (holds_some (cs.class c) (λ k. not k.is_abstract && not k.is_interface)) _ p.0 in
      let f = holds_inv (cs.class c) (λ k. not k.is_abstract && not k.is_interface) q.0 in
      let g = and_parts (not f.0.is_abstract) (not f.0.is_interface) f.2 in
      let s = and_parts (is_reference_class cs c) (not (some_eq (Some c) (basic cs elem.String)) && not (some_eq (Some c) (array cs))) q.1 in
      let t = and_parts (not (some_eq (Some c) (basic cs elem.String))) (not (some_eq (Some c) (array cs))) s.1 in
      let u = holds_inv (basic cs elem.Object) (is_sub cs c) p.1 in
      let same : u.0 ≡ b.object = (let both : Some u.0 ≡ Some b.object = sym u.1 ∙ b.object_is in cc both) in
      record {
        class = f.0;
        there = f.1;
        whole = not-true f.0.is_abstract g.0;
        no_interface = not-true f.0.is_interface g.1;
        reference = s.0;
        not_string = not-true (some_eq (Some c) (basic cs elem.String)) t.0;
        not_arrays = not-true (some_eq (Some c) (array cs)) t.1;
        under = subst (λ z. is_sub cs c z ≡ true) same u.2;
      }

  pub same_some : (c d : Id) (q : Option Id) → q ≡ Some c → q ≡ Some d → c ≡ d
  same_some c d q e h = let both : Some c ≡ Some d = sym e ∙ h in cc both

  -- an object that is no instance has a class right under Enum, ValueType or Object
  pub low_object : (own : CliType) (c : Id) → made cs own ≡ true → is_instance_type own ≡ false → class_of_object cs own ≡ Some c → Low n cs r b k c
  low_object (Basic e) c h i is =
      ⊎_elim
      (λ g. inr (inl (b.number_super e c g is)))
      (λ g. inr (inr (let same = same_some b.string c (basic cs elem.String) b.string_is (ap (basic cs) (sym g) ∙ is) in subst (λ z. superclass_of cs z ≡ Some b.object) same b.string_super)))
      (made_basic e h)
  low_object (EnumOf e d) c h i is =
      let same : d ≡ c = cc is in
      inl (subst (λ z. superclass_of cs z ≡ Some b.enums) same (r.enumeration d e (enum_kind e d (made_enum e d h).1) ∙ b.enums_is))
  low_object (ClassOf d) c h i is = absurd (cc i)
  low_object (ValueOf d) c h i is = absurd (cc h)
  low_object (ArrayOf a) c h i is = inr (inr (let same = same_some b.arrays c (array cs) b.arrays_is is in subst (λ z. superclass_of cs z ≡ Some b.object) same (arrays_super n cs r b k)))

  -- ---- kinds

  -- a class of an object that is no instance has no instance fields, where it is a reference class
  own_bare : (own : CliType) (c : Id) → made cs own ≡ true → is_instance_type own ≡ false → class_of_object cs own ≡ Some c → is_reference_class cs c ≡ true → Bare n cs r b k c
  own_bare (Basic e) c h i is ref =
      ⊎_elim
      (λ g. absurd (both_ways (is_reference_class cs c) (ap (λ z. is_refers (cell_of z)) (basic_type n cs r b k c e is) ∙ bits_no_reference (elem_cell e) g) ref))
      (λ g. let same = same_some b.string c (basic cs elem.String) b.string_is (ap (basic cs) (sym g) ∙ is) in subst (Bare n cs r b k) same (bare_under n cs r b k b.string b.object b.string_bare b.string_super (object_bare n cs r b k)))
      (made_basic e h)
  own_bare (EnumOf e d) c h i is ref =
      let same : d ≡ c = cc is in
      let m = made_enum e d h in
      absurd (both_ways (is_reference_class cs c) (subst (λ z. is_reference_class cs z ≡ false) same (ap (λ z. is_refers (cell_of z)) m.1 ∙ bits_no_reference (elem_cell e) m.0)) ref)
  own_bare (ClassOf d) c h i is ref = absurd (cc i)
  own_bare (ValueOf d) c h i is ref = absurd (cc h)
  own_bare (ArrayOf a) c h i is ref = let same = same_some b.arrays c (array cs) b.arrays_is is in subst (Bare n cs r b k) same (bare_under n cs r b k b.arrays b.object b.arrays_bare (arrays_super n cs r b k) (object_bare n cs r b k))

  pub flat : (own : CliType) (c z : Id) → made cs own ≡ true → is_instance_type own ≡ false → class_of_object cs own ≡ Some c → is_or_implements cs c z ≡ true → is_reference_class cs z ≡ true → instance_fields cs z ≡ []
  flat own c z h i is way ref =
      ⊎_elim
      (λ y. interface_bare n cs r b k z y cs.size)
      (λ y. by (low_way n cs r b k cs.size c z (low_object own c h i is) (class_way n cs r b k cs.size c z y way)))
      (cases_Bool (is_interface cs z))
    where
      by : Under n cs r b k c z → instance_fields cs z ≡ []
      by (inl e) = own_bare own z h i (is ∙ ap Some e) ref cs.size
      by (inr (inl e)) = subst (Bare n cs r b k) e (enums_bare n cs r b k) cs.size
      by (inr (inr (inl e))) = subst (Bare n cs r b k) e (value_bare n cs r b k) cs.size
      by (inr (inr (inr e))) = subst (Bare n cs r b k) e (object_bare n cs r b k) cs.size

  pub plain_object : (own : CliType) → made cs own ≡ true → is_plain own ≡ true
  plain_object (Basic e) h = ⊎_elim (λ g. bits_plain e g) (λ g. ap (λ z. is_some (elem_cell z)) g) (made_basic e h)
  plain_object (EnumOf e c) h = bits_plain e (made_enum e c h).0
  plain_object (ClassOf c) h = refl
  plain_object (ValueOf c) h = absurd (cc h)
  plain_object (ArrayOf a) h = h

  pub string_alone : (own : CliType) → made cs own ≡ true → class_of cs own ≡ Some b.string → own ≡ Basic elem.String
  string_alone (Basic e) h is = let both : Basic e ≡ Basic elem.String = sym (basic_type n cs r b k b.string e is) ∙ basic_type n cs r b k b.string elem.String b.string_is in both
  string_alone (EnumOf e c) h is =
      let same : c ≡ b.string = cc is in
      absurd (let bad : EnumOf e c ≡ Basic elem.String = sym (made_enum e c h).1 ∙ (ap (type_of_class cs) same ∙ basic_type n cs r b k b.string elem.String b.string_is) in cc bad)
  string_alone (ClassOf c) h is = absurd (both_ways (some_eq (Some c) (basic cs elem.String)) (instance_of c h).not_string (both_some (Some c) (basic cs elem.String) c refl (b.string_is ∙ sym is)))
  string_alone (ValueOf c) h is = absurd (cc h)
  string_alone (ArrayOf a) h is = absurd (cc is)

  pub string_not_arrays : b.arrays ≡ b.string → ⊥
  string_not_arrays e = absurd (let bad : Some Reference ≡ Some (Builtin elem.String) = sym b.arrays_kind ∙ (ap (kind_of cs) e ∙ r.basic_kind b.string elem.String b.string_is) in cc bad)

  abbrev pub kinds : Kinds cs o (made cs)
  kinds =
      record {
        no_super = no_super n cs r b k;
        interfaces_only = λ c d i e. interfaces_only n cs r b k c d i e;
        string = b.string;
        string_is = b.string_is;
        string_low = string_low n cs r b k;
        string_not_arrays = string_not_arrays;
        plain_objects = plain_object;
        string_alone = string_alone;
        flat = flat;
      }

  -- ---- under Object, with all slots filled

  reach_super : (m : ℕ) (c d z : Id) → superclass_of cs c ≡ Some d → reaches m (parents cs) d z ≡ true → reaches (suc m) (parents cs) c z ≡ true
  reach_super m c d z e h = or_right (id_eq c z) _ (at_any (λ w. reaches m (parents cs) w z) (parents cs c) 0 d (first_parent cs c d e) h)

  value_up : reaches 1 (parents cs) b.value b.object ≡ true
  value_up = reach_super 0 b.value b.object b.object b.value_super (id_here b.object)

  low_up : (c : Id) → Low n cs r b k c → is_or_implements cs c b.object ≡ true
  low_up c (inl e) = reach_within (parents cs) 3 cs.size c b.object (o.ends_above c) (reach_super 2 c b.enums b.object e (reach_super 1 b.enums b.value b.object b.enums_super value_up))
  low_up c (inr (inl e)) = reach_within (parents cs) 2 cs.size c b.object (o.ends_above c) (reach_super 1 c b.value b.object e value_up)
  low_up c (inr (inr e)) = reach_within (parents cs) 1 cs.size c b.object (o.ends_above c) (reach_super 0 c b.object b.object e (id_here b.object))

  -- rule 31's test gives the slots
  pub filled : (c : Id) → is_filled cs c ≡ true → Filled cs c
  filled c e z i m way there st vi =
      let f = all_reached_at (parents cs) (fills cs c) cs.size c z e way in
      let h = all_at (λ m. only_if (is_slot cs z m) (has_body_at cs c m)) (methods_of cs z) i m f there in
      let g = only_then (is_slot cs z m) (has_body_at cs c m) h (slot_here m.is_static m.is_virtual (is_interface cs z) st vi) in
      let t = holds_inv (target cs c m.id) _ g in
      let u = holds_inv (method_at cs t.0) (λ x. has_body x.body) t.2 in
      (t.0, u.0, t.1, u.1, u.2)

  slots : (c : Id) (z : Class) → cs.class c ≡ Some z → z.is_interface ≡ false → z.is_abstract && is_reference_class cs c ≡ false → Filled cs c
  slots c z e i a = filled c (seen_slots z.is_interface z.is_abstract (is_reference_class cs c) (is_filled cs c) (k.slots c z e) i a)

  interface_here : (c : Id) (z : Class) → cs.class c ≡ Some z → is_interface cs c ≡ false → z.is_interface ≡ false
  interface_here c z e h = sym (ap (λ z. unwrap_or (option_map (λ k. k.is_interface) z) false) e) ∙ h

  and_false : (a q : Bool) → q ≡ false → a && q ≡ false
  and_false true q e = e
  and_false false q e = refl

  -- of a value type with a superclass
  value_slots : (c d : Id) → superclass_of cs c ≡ Some d → is_reference_class cs c ≡ false → Filled cs c
  value_slots c d e v =
      let s = some_inv (cs.class c) (λ z. z.superclass) d e in
      slots c s.0 s.1 (interface_here c s.0 s.1 (no_interface n cs r b k c d e)) (and_false s.0.is_abstract (is_reference_class cs c) v)

  string_slots : Filled cs b.string
  string_slots =
      let s = holds_inv (cs.class b.string) (λ k. not k.is_abstract) b.string_whole in
      slots b.string s.0 s.1 (interface_here b.string s.0 s.1 (no_interface n cs r b k b.string b.object b.string_super)) (ap (λ z. z && is_reference_class cs b.string) (not-true s.0.is_abstract s.2))

  abbrev pub Named : CliType → Type 0
  Named own = (c : Id) × (class_of_object cs own ≡ Some c) × (is_or_implements cs c b.object ≡ true) × Filled cs c

  pub basic_there : (e : Elem) → is_some (basic cs e) ≡ true → (c : Id) × (basic cs e ≡ Some c)
  basic_there e h = by (basic cs e) h
    where
      by : (q : Option Id) → is_some q ≡ true → (c : Id) × (q ≡ Some c)
      by None h = absurd (cc h)
      by (Some c) h = (c, refl)

  pub named : (own : CliType) → made cs own ≡ true → Named own
  named (Basic e) h =
      ⊎_elim
      (λ g. let c = basic_there e (b.basics e (bits_plain e g)) in
      (c.0, c.1, low_up c.0 (inr (inl (b.number_super e c.0 g c.1))), value_slots c.0 b.value (b.number_super e c.0 g c.1) (ap (λ z. is_refers (cell_of z)) (basic_type n cs r b k c.0 e c.1) ∙ bits_no_reference (elem_cell e) g)))
      (λ g. (b.string, ap (basic cs) g ∙ b.string_is, low_up b.string (inr (inr b.string_super)), string_slots))
      (made_basic e h)
  named (EnumOf e c) h =
      let m = made_enum e c h in
      let s = r.enumeration c e (enum_kind e c m.1) ∙ b.enums_is in
      (c, refl, low_up c (inl s), value_slots c b.enums s (ap (λ z. is_refers (cell_of z)) m.1 ∙ bits_no_reference (elem_cell e) m.0))
  named (ClassOf c) h =
      let q = instance_of c h in
      (c, refl, sub_reaches cs cs.size c b.object q.under, slots c q.class q.there q.no_interface (ap (λ z. z && is_reference_class cs c) q.whole))
  named (ValueOf c) h = absurd (cc h)
  named (ArrayOf a) h = (b.arrays, b.arrays_is, low_up b.arrays (inr (inr (arrays_super n cs r b k))), filled b.arrays b.arrays_filled)

  pub boxes : (own : CliType) (c : Id) → made cs own ≡ true → class_of_object cs own ≡ Some c → is_reference_class cs c ≡ false → (own ≡ type_of_class cs c) × (is_number own ≡ true)
  boxes (Basic e) c h is v =
      ⊎_elim
      (λ g. (sym (basic_type n cs r b k c e is), g))
      (λ g. absurd (both_ways (is_reference_class cs c) v (ap (λ z. is_refers (cell_of z)) (basic_type n cs r b k c e is) ∙ ap (λ z. is_refers (elem_cell z)) g)))
      (made_basic e h)
  boxes (EnumOf e d) c h is v = let same : d ≡ c = cc is in let m = made_enum e d h in (sym m.1 ∙ ap (type_of_class cs) same, m.0)
  boxes (ClassOf d) c h is v = let same : d ≡ c = cc is in absurd (both_ways (is_reference_class cs c) v (subst (λ z. is_reference_class cs z ≡ true) same (instance_of d h).reference))
  boxes (ValueOf d) c h is v = absurd (cc h)
  boxes (ArrayOf a) c h is v =
      let same = same_some b.arrays c (array cs) b.arrays_is is in
      absurd (both_ways (is_reference_class cs c) v (subst (λ z. is_reference_class cs z ≡ true) same (ap (λ z. is_refers (cell_of z)) (type_is n cs r b k b.arrays Reference b.arrays_kind))))

  abbrev pub objects : Objects cs o (made cs)
  objects =
      record {
        named = named;
        class_back = class_back n cs r b k;
        value_low = λ c d i e. value_low n cs r b k c d i e;
        boxes = boxes;
      }
