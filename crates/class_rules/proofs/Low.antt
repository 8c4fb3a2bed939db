-- What the rules and the base library give of kinds of classes, and of the types of which objects are made.
use Rattle.std.proofs.Common.{◌≡◌, ◌⊎◌, inl, inr, ⊎_elim, ℕ, zero, suc, true, false, [], ◌++◌, Option, Some, None, refl, sym, ap, ◌∙◌, subst}
use Rattle.std.specs.Prelude.{◌&&◌, not, slice_get, unwrap_or}
use Rattle.std.specs.Option.{option_map}
use Rattle.std.specs.List.{list_any}
use Rattle.std.proofs.lemmas.Bool.{and_parts, or_cases, and_from, both_ways, not-true, cases_Bool}
use Rattle.plain_types.specs.declared.elem.Elem.{Elem}
use Rattle.plain_types.specs.declared.elem.Elem.TheVariants as elem
use Rattle.machine.specs.Data.{Id, id_eq, Basic, Cell, Bits, Refers, cell_of, elem_cell}
use Rattle.machine_typed.specs.Typing.{is_refers, is_number, is_bits}
use Rattle.machine_typed.proofs.Types.{id_same}
use Rattle.classes.specs.Classes.{Classes, OwnField, TypeKind, Reference, Builtin, Enumeration, OtherValue}
use Rattle.classes.specs.Queries.{listed, reaches, above, parents, superclass_of, interfaces_of, is_interface, basic, array, some_eq, class_of, type_by_kind, type_of_class, fields_of, own_instance_fields, instance_fields_within, is_instance, kind_of}
use Rattle.class_rules.specs.Facts.{Order, is_reference_class}
use Rattle.class_rules.specs.Rules.{field_stands_well, Keeps}
use Rattle.class_rules.specs.Base.{IsBase}
use Rattle.class_rules.proofs.Ways.{or_left, or_right, any_at, at_any, all_at}
use Rattle.class_rules.proofs.Slots.{first_parent}
use Rattle.class_rules.proofs.FitsLaws.{both_some}
use Rattle.class_rules.proofs.Kept.{part_of, listed_inv, filter_none, extending, interfaces_only, parent_is, order}
use Rattle.classes.specs.Reading.{IsRead}

pub bits_no_reference : (o : Option Cell) → is_bits o ≡ true → is_refers o ≡ false
bits_no_reference (Some (Bits i)) e = refl
bits_no_reference (Some Refers) e = absurd (cc e)
bits_no_reference None e = absurd (cc e)

module _ (n : ℕ) (cs : Classes) (r : IsRead n cs) (b : IsBase cs) (k : Keeps n cs) where
  abbrev o : Order cs
  o = order n cs r b k

  -- ---- kinds and types

  pub type_is : (c : Id) (q : TypeKind) → kind_of cs c ≡ Some q → type_of_class cs c ≡ type_by_kind (Some q) c
  type_is c q e = ap (λ z. type_by_kind z c) e

  pub class_back : (c : Id) → class_of cs (type_of_class cs c) ≡ Some c
  class_back c = by (kind_of cs c) refl
    where
      by : (q : Option TypeKind) → kind_of cs c ≡ q → class_of cs (type_by_kind q c) ≡ Some c
      by None e = refl
      by (Some Reference) e = refl
      by (Some (Builtin g)) e = r.builtin c g e
      by (Some (Enumeration g)) e = refl
      by (Some OtherValue) e = refl

  pub basic_type : (c : Id) (e : Elem) → basic cs e ≡ Some c → type_of_class cs c ≡ Basic e
  basic_type c e h = type_is c (Builtin e) (r.basic_kind c e h)

  pub builtin_sort : (e : Elem) (c : Id) → basic cs e ≡ Some c → (is_number (Basic e) ≡ true) ⊎ (is_refers (elem_cell e) ≡ true)
  builtin_sort elem.Bool c h = inl refl
  builtin_sort elem.Char c h = inl refl
  builtin_sort elem.I1 c h = inl refl
  builtin_sort elem.U1 c h = inl refl
  builtin_sort elem.I2 c h = inl refl
  builtin_sort elem.U2 c h = inl refl
  builtin_sort elem.I4 c h = inl refl
  builtin_sort elem.U4 c h = inl refl
  builtin_sort elem.I8 c h = inl refl
  builtin_sort elem.U8 c h = inl refl
  builtin_sort elem.String c h = inr refl
  builtin_sort elem.Object c h = inr refl
  builtin_sort elem.Void c h = absurd (cc h)
  builtin_sort elem.Class c h = absurd (cc h)
  builtin_sort elem.Value c h = absurd (cc h)

  pub no_interface : (c d : Id) → superclass_of cs c ≡ Some d → is_interface cs c ≡ false
  no_interface c d e = (extending n cs r b k c d e).from_class

  interface_reference : (c : Id) → is_interface cs c ≡ true → is_reference_class cs c ≡ true
  interface_reference c i = by (kind_of cs c) refl
    where
      never : (d : Id) → superclass_of cs c ≡ Some d → ⊥
      never d e = both_ways (is_interface cs c) (no_interface c d e) i

      by : (q : Option TypeKind) → kind_of cs c ≡ q → is_refers (cell_of (type_by_kind q c)) ≡ true
      by None e = refl
      by (Some Reference) e = refl
      by (Some (Builtin g)) e = ⊎_elim (λ h. absurd (never b.value (b.number_super g c h (r.builtin c g e)))) (λ h. h) (builtin_sort g c (r.builtin c g e))
      by (Some (Enumeration g)) e = absurd (never b.enums (r.enumeration c g e ∙ b.enums_is))
      by (Some OtherValue) e = absurd (never b.value (r.other c e ∙ b.value_is))

  -- ---- what nothing extends

  pub record Extended (d : Id) : Type 0 where
    pub not_arrays : some_eq (Some d) (array cs) ≡ false
    pub not_string : some_eq (Some d) (basic cs elem.String) ≡ false
    pub reference : is_reference_class cs d ≡ true

  pub extended : (c d : Id) → superclass_of cs c ≡ Some d → Extended d
  extended c d e =
      let p = and_parts (not (some_eq (Some d) (array cs))) (not (some_eq (Some d) (basic cs elem.String)) && is_reference_class cs d) (extending n cs r b k c d e).low in
      let q = and_parts (not (some_eq (Some d) (basic cs elem.String))) (is_reference_class cs d) p.1 in
      record { not_arrays = not-true (some_eq (Some d) (array cs)) p.0; not_string = not-true (some_eq (Some d) (basic cs elem.String)) q.0; reference = q.1 }

  pub value_low : (c d : Id) (i : ℕ) → slice_get (parents cs c) i ≡ Some d → is_reference_class cs d ≡ true
  value_low c d i e = ⊎_elim (λ s. (extended c d s).reference) (λ s. interface_reference d (interfaces_only n cs r b k c d s.0 s.1)) (parent_is n cs r b k c d i e)

  pub string_low : (c d : Id) (i : ℕ) → slice_get (parents cs c) i ≡ Some d → d ≡ b.string → ⊥
  string_low c d i e same =
      ⊎_elim
      (λ s. both_ways (some_eq (Some d) (basic cs elem.String)) (extended c d s).not_string (both_some (Some d) (basic cs elem.String) d refl (b.string_is ∙ ap Some (sym same))))
      (λ s. both_ways (is_interface cs d) (subst (λ z. is_interface cs z ≡ false) (sym same) (no_interface b.string b.object b.string_super)) (interfaces_only n cs r b k c d s.0 s.1))
      (parent_is n cs r b k c d i e)

  -- ---- ways up the superclasses

  pub up_step : (m : ℕ) (c z : Id) → reaches m (above cs) c z ≡ true → (c ≡ z) ⊎ ((d : Id) × (j : ℕ) × (superclass_of cs c ≡ Some d) × (reaches j (above cs) d z ≡ true))
  up_step zero c z h = inl (id_same c z h)
  up_step (suc m) c z h =
      ⊎_elim (λ e. inl (id_same c z e))
      (λ on. let q = any_at (λ d. reaches m (above cs) d z) (above cs c) on in inr (q.1, m, listed_inv (superclass_of cs c) q.0 q.1 q.2, q.3))
      (or_cases (id_eq c z) (list_any (λ d. reaches m (above cs) d z) (above cs c)) h)

  pub step_to : (m : ℕ) (c d z : Id) → superclass_of cs c ≡ Some d → reaches m (above cs) c z ≡ true → (c ≡ z) ⊎ ((j : ℕ) × (reaches j (above cs) d z ≡ true))
  step_to m c d z e h =
      ⊎_elim (λ s. inl s)
      (λ q. inr (q.1, let same : q.0 ≡ d = (let both : Some q.0 ≡ Some d = sym q.2 ∙ e in cc both) in subst (λ w. reaches q.1 (above cs) w z ≡ true) same q.3))
      (up_step m c z h)

  pub object_super : superclass_of cs b.object ≡ None
  object_super = by (superclass_of cs b.object) refl
    where
      by : (q : Option Id) → superclass_of cs b.object ≡ q → q ≡ None
      by None e = refl
      by (Some d) e = absurd (let h : slice_get [] 0 ≡ Some d = sym (ap (λ z. slice_get z 0) b.object_top) ∙ first_parent cs b.object d e in cc h)

  pub arrays_super : superclass_of cs b.arrays ≡ Some b.object
  arrays_super = by (superclass_of cs b.arrays) refl
    where
      by : (q : Option Id) → superclass_of cs b.arrays ≡ q → q ≡ Some b.object
      by (Some d) e = sym (sym (ap (λ z. slice_get z 0) b.arrays_top) ∙ first_parent cs b.arrays d e)
      by None e =
          absurd (let h : slice_get (interfaces_of cs b.arrays) 0 ≡ Some b.object = sym (ap (λ z. slice_get (listed z ++ interfaces_of cs b.arrays) 0) e) ∙ ap (λ z. slice_get z 0) b.arrays_top in
          both_ways (is_interface cs b.object) b.object_class (interfaces_only n cs r b k b.arrays b.object 0 h))

  -- right under Enum, ValueType or Object
  abbrev pub Low : Id → Type 0
  Low c = (superclass_of cs c ≡ Some b.enums) ⊎ ((superclass_of cs c ≡ Some b.value) ⊎ (superclass_of cs c ≡ Some b.object))

  abbrev pub Under : Id → Id → Type 0
  Under c z = (c ≡ z) ⊎ ((b.enums ≡ z) ⊎ ((b.value ≡ z) ⊎ (b.object ≡ z)))

  pub from_object : (m : ℕ) (z : Id) → reaches m (above cs) b.object z ≡ true → b.object ≡ z
  from_object m z h = ⊎_elim (λ s. s) (λ q. absurd (let e : None ≡ Some q.0 = sym object_super ∙ q.2 in cc e)) (up_step m b.object z h)

  pub from_value : (m : ℕ) (z : Id) → reaches m (above cs) b.value z ≡ true → (b.value ≡ z) ⊎ (b.object ≡ z)
  from_value m z h = ⊎_elim (λ s. inl s) (λ q. inr (from_object q.0 z q.1)) (step_to m b.value b.object z b.value_super h)

  from_enums : (m : ℕ) (z : Id) → reaches m (above cs) b.enums z ≡ true → (b.enums ≡ z) ⊎ ((b.value ≡ z) ⊎ (b.object ≡ z))
  from_enums m z h = ⊎_elim (λ s. inl s) (λ q. inr (from_value q.0 z q.1)) (step_to m b.enums b.value z b.enums_super h)

  pub low_way : (m : ℕ) (c z : Id) → Low c → reaches m (above cs) c z ≡ true → Under c z
  low_way m c z (inl e) h = ⊎_elim (λ s. inl s) (λ q. inr (from_enums q.0 z q.1)) (step_to m c b.enums z e h)
  low_way m c z (inr (inl e)) h = ⊎_elim (λ s. inl s) (λ q. inr (inr (from_value q.0 z q.1))) (step_to m c b.value z e h)
  low_way m c z (inr (inr e)) h = ⊎_elim (λ s. inl s) (λ q. inr (inr (inr (from_object q.0 z q.1)))) (step_to m c b.object z e h)

  interface_stays : (m : ℕ) (c z : Id) → is_interface cs c ≡ true → reaches m (parents cs) c z ≡ true → is_interface cs z ≡ true
  interface_stays zero c z i h = subst (λ w. is_interface cs w ≡ true) (id_same c z h) i
  interface_stays (suc m) c z i h =
      ⊎_elim
      (λ e. subst (λ w. is_interface cs w ≡ true) (id_same c z e) i)
      (λ on. let q = any_at (λ d. reaches m (parents cs) d z) (parents cs c) on in
      ⊎_elim
      (λ s. absurd (both_ways (is_interface cs c) (no_interface c q.1 s) i))
      (λ s. interface_stays m q.1 z (interfaces_only n cs r b k c q.1 s.0 s.1) q.3)
      (parent_is n cs r b k c q.1 q.0 q.2))
      (or_cases (id_eq c z) (list_any (λ d. reaches m (parents cs) d z) (parents cs c)) h)

  pub class_way : (m : ℕ) (c z : Id) → is_interface cs z ≡ false → reaches m (parents cs) c z ≡ true → reaches m (above cs) c z ≡ true
  class_way zero c z i h = h
  class_way (suc m) c z i h =
      ⊎_elim
      (λ e. or_left (id_eq c z) _ e)
      (λ on. let q = any_at (λ d. reaches m (parents cs) d z) (parents cs c) on in
      ⊎_elim
      (λ s. or_right (id_eq c z) _ (at_any (λ d. reaches m (above cs) d z) (above cs c) 0 q.1 (ap (λ w. slice_get (listed w) 0) s) (class_way m q.1 z i q.3)))
      (λ s. absurd (both_ways (is_interface cs z) i (interface_stays m q.1 z (interfaces_only n cs r b k c q.1 s.0 s.1) q.3)))
      (parent_is n cs r b k c q.1 q.0 q.2))
      (or_cases (id_eq c z) (list_any (λ d. reaches m (parents cs) d z) (parents cs c)) h)

  -- ---- classes without instance fields

  abbrev pub Bare : Id → Type 0
  Bare c = (m : ℕ) → instance_fields_within m cs c ≡ []

  bare : (c : Id) → own_instance_fields cs c ≡ [] → ((d : Id) → superclass_of cs c ≡ Some d → Bare d) → Bare c
  bare c own up zero = own
  bare c own up (suc m) = by (superclass_of cs c) refl
    where
      by : (q : Option Id) → superclass_of cs c ≡ q → unwrap_or (option_map (instance_fields_within m cs) q) [] ++ own_instance_fields cs c ≡ []
      by None e = own
      by (Some d) e = ap (λ w. w ++ own_instance_fields cs c) (up d e m) ∙ own

  pub bare_under : (c d : Id) → own_instance_fields cs c ≡ [] → superclass_of cs c ≡ Some d → Bare d → Bare c
  bare_under c d own e f = bare c own (λ q h. let same : d ≡ q = (let both : Some d ≡ Some q = sym e ∙ h in cc both) in subst Bare same f)

  pub object_bare : Bare b.object
  object_bare = bare b.object b.object_bare (λ d e. absurd (let h : None ≡ Some d = sym object_super ∙ e in cc h))

  pub value_bare : Bare b.value
  value_bare = bare_under b.value b.object b.value_bare b.value_super object_bare

  pub enums_bare : Bare b.enums
  enums_bare = bare_under b.enums b.value b.enums_bare b.enums_super value_bare

  pub interface_bare : (c : Id) → is_interface cs c ≡ true → Bare c
  interface_bare c i = bare c (filter_none is_instance (fields_of cs c) each) (λ d e. absurd (both_ways (is_interface cs c) (no_interface c d e) i))
    where
      each : (j : ℕ) (f : OwnField) → slice_get (fields_of cs c) j ≡ Some f → is_instance f ≡ false
      each j f e =
          let p = part_of (cs.class c) (λ z. z.fields) j f e in
          let w = and_parts (not (is_instance f && p.0.is_interface)) _ (all_at (field_stands_well c p.0) p.0.fields j f (k.fields c p.0 p.1) p.2) in
          let i2 : p.0.is_interface ≡ true = sym (ap (λ z. unwrap_or (option_map (λ k. k.is_interface) z) false) p.1) ∙ i in
          ⊎_elim
          (λ y. absurd (both_ways (is_instance f && p.0.is_interface) (not-true (is_instance f && p.0.is_interface) w.0) (and_from (is_instance f) p.0.is_interface y i2)))
          (λ y. y)
          (cases_Bool (is_instance f))
