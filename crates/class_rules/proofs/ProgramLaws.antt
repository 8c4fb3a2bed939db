-- What the rules and the base library give the machine's typing of a program, besides that of its code.
use Rattle.std.proofs.Common.{◌≡◌, ◌⊎◌, inl, inr, ⊎_elim, ℕ, zero, suc, Bool, true, false, List, [], ◌∷◌, Option, Some, None, refl, sym, ap, ◌∙◌, subst}
use Rattle.std.specs.Prelude.{if◌then◌else◌, ◌&&◌, slice_get, unwrap_or, is_some, cond}
use Rattle.std.specs.Option.{option_map}
use Rattle.std.specs.List.{list_any, filter}
use Rattle.std.proofs.lemmas.Bool.{and_parts, or_cases, and_from, both_ways, cases_Bool}
use Rattle.board_types.specs.declared.board.Known.{Known}
use Rattle.plain_types.specs.declared.elem.Elem.{Elem}
use Rattle.plain_types.specs.declared.elem.Elem.TheVariants as elem
use Rattle.machine.specs.Data.{Id, id_eq, CliType, Basic, EnumOf, ClassOf, ValueOf, ArrayOf, Cell, cell_of, elem_cell}
use Rattle.machine.specs.Program.{Program, Method, NativeName, ObjectToString, EnumEquals, EnumToString, ArrayLength, ArrayCopy, StringLength, StringChars, StringConcat, StringSubstring, StringEquals, StringCompare, StringFromChars, StringFromChar, NumberSigned, NumberUnsigned, InitializeArray, DebugPrint}
use Rattle.machine_typed.specs.Typing.{StackType, is_refers, is_number, is_bits, is_plain}
use Rattle.machine_typed.specs.Accepted.{Typing, is_enum, is_array, OnlyEnums, OnlyArrays, NativeFits, Makes}
use Rattle.machine_typed.proofs.Heaps.{some_inv}
use Rattle.machine_typed.proofs.Types.{id_same}
use Rattle.classes.specs.Classes.{Classes, Class, OwnField, SigType, Spelt, ClassToken, ValueToken, ArraySig, TypeKind, Reference, Builtin, Enumeration, OtherValue, FieldKind, InstanceField, StaticField, LiteralField, DataField}
use Rattle.classes.specs.Code.{Sources}
use Rattle.classes.specs.Queries.{reaches, above, superclass_of, is_interface, is_sub, basic, array, some_eq, fits, type_by_kind, type_of_class, type_of, fields_of, own_instance_fields, instance_fields_within, instance_fields, is_instance, is_instance_kind, fields, known, kind_of, is_integer}
use Rattle.classes.specs.Listed.{program_of}
use Rattle.class_rules.specs.Facts.{Order, Members, Objects, is_reference_class, class_of_object, is_instance_type}
use Rattle.class_rules.specs.Rules.{is_none_there, is_void, value_well, sig_fits, is_data_kind, data_sig_fits, field_signature_fits, under_object, Keeps}
use Rattle.class_rules.specs.Made.{is_made, made}
use Rattle.class_rules.specs.Base.{IsBase, native_takes, native_gives}
use Rattle.class_rules.proofs.Ways.{any_at, all_at}
use Rattle.class_rules.proofs.FitsLaws.{both_some}
use Rattle.class_rules.proofs.DispatchLaws.{way_to}
use Rattle.class_rules.proofs.ObjectLaws.{fields_inv, types_at}
use Rattle.class_rules.proofs.Kept.{holds_inv, part_of, split_list, listed_inv, apart, order, members}
use Rattle.class_rules.proofs.Low.{bits_no_reference, type_is, builtin_sort, no_interface, extended, step_to, from_object, from_value, low_way, class_way, Under, object_super, arrays_super}
use Rattle.class_rules.proofs.MadeLaws.{enum_kind, made_enum, made_basic, instance_of, low_object, same_some, named, objects}
use Rattle.classes.specs.Reading.{IsRead}

-- ---- small facts

pub integer_bits : (e : Elem) → is_integer e ≡ true → is_bits (elem_cell e) ≡ true
integer_bits elem.I1 h = refl
integer_bits elem.U1 h = refl
integer_bits elem.I2 h = refl
integer_bits elem.U2 h = refl
integer_bits elem.I4 h = refl
integer_bits elem.U4 h = refl
integer_bits elem.I8 h = refl
integer_bits elem.U8 h = refl
integer_bits elem.Void h = absurd (cc h)
integer_bits elem.Bool h = absurd (cc h)
integer_bits elem.Char h = absurd (cc h)
integer_bits elem.String h = absurd (cc h)
integer_bits elem.Object h = absurd (cc h)
integer_bits elem.Class h = absurd (cc h)
integer_bits elem.Value h = absurd (cc h)

pub refers_two : (e : Elem) → is_refers (elem_cell e) ≡ true → (e ≡ elem.String) ⊎ (e ≡ elem.Object)
refers_two elem.String h = inl refl
refers_two elem.Object h = inr refl
refers_two elem.I1 h = absurd (cc h)
refers_two elem.U1 h = absurd (cc h)
refers_two elem.I2 h = absurd (cc h)
refers_two elem.U2 h = absurd (cc h)
refers_two elem.I4 h = absurd (cc h)
refers_two elem.U4 h = absurd (cc h)
refers_two elem.I8 h = absurd (cc h)
refers_two elem.U8 h = absurd (cc h)
refers_two elem.Void h = absurd (cc h)
refers_two elem.Bool h = absurd (cc h)
refers_two elem.Char h = absurd (cc h)
refers_two elem.Class h = absurd (cc h)
refers_two elem.Value h = absurd (cc h)

refers_some : (q : Option Cell) → is_refers q ≡ true → is_some q ≡ true
refers_some (Some c) h = refl
refers_some None h = absurd (cc h)

bits_some : (q : Option Cell) → is_bits q ≡ true → is_some q ≡ true
bits_some (Some c) h = refl
bits_some None h = absurd (cc h)

pub filter_in : {A : Type 0} (test : A → Bool) (xs : List A) (i : ℕ) (f : A) → slice_get (filter test xs) i ≡ Some f → (j : ℕ) × (slice_get xs j ≡ Some f) × (test f ≡ true)
filter_in test [] i f e = absurd (cc e)
filter_in {A = A} test (x ∷ xs) i f e = by (test x) refl i e (λ j h. filter_in test xs j f h)
  where
    by : (b : Bool) → test x ≡ b → (i : ℕ) → slice_get (cond b (x ∷ filter test xs) (filter test xs)) i ≡ Some f → ((j : ℕ) → slice_get (filter test xs) j ≡ Some f → (l : ℕ) × (slice_get xs l ≡ Some f) × (test f ≡ true)) → (j : ℕ) × (slice_get (x ∷ xs) j ≡ Some f) × (test f ≡ true)
    by true h zero e rest = let same : x ≡ f = cc e in (0, e, subst (λ z. test z ≡ true) same h)
    by true h (suc i) e rest = let q = rest i e in (suc q.0, q.1, q.2)
    by false h i e rest = let q = rest i e in (suc q.0, q.1, q.2)

pub filter_has : {A : Type 0} (test : A → Bool) (xs : List A) (j : ℕ) (f : A) → filter test xs ≡ [] → slice_get xs j ≡ Some f → test f ≡ true → ⊥
filter_has test [] j f e h t = absurd (cc h)
filter_has test (x ∷ xs) zero f e h t =
    let same : x ≡ f = cc h in
    absurd (let bad : x ∷ filter test xs ≡ [] = sym (ap (λ (z : Bool). cond z (x ∷ filter test xs) (filter test xs)) (subst (λ z. test z ≡ true) (sym same) t)) ∙ e in cc bad)
filter_has {A = A} test (x ∷ xs) (suc j) f e h t = by (test x) e (λ g. filter_has test xs j f g h t)
  where
    by : (b : Bool) → cond b (x ∷ filter test xs) (filter test xs) ≡ [] → (filter test xs ≡ [] → ⊥) → ⊥
    by true e rest = absurd (cc e)
    by false e rest = rest e

no_data : (q : FieldKind) → is_instance_kind q ≡ true → is_data_kind q ≡ false
no_data InstanceField e = refl
no_data StaticField e = absurd (cc e)
no_data LiteralField e = absurd (cc e)
no_data (DataField bytes) e = absurd (cc e)

instance_type : (own : CliType) → is_instance_type own ≡ true → (c : Id) × (own ≡ ClassOf c)
instance_type (ClassOf c) e = (c, refl)
instance_type (Basic g) e = absurd (cc e)
instance_type (EnumOf g c) e = absurd (cc e)
instance_type (ValueOf c) e = absurd (cc e)
instance_type (ArrayOf a) e = absurd (cc e)

pub void_is : (q : Option SigType) → is_void q ≡ true → q ≡ None
void_is None e = refl
void_is (Some s) e = absurd (cc e)

pub none_is : {A : Type 0} (xs : List A) → is_none_there xs ≡ true → xs ≡ []
none_is [] e = refl
none_is (x ∷ xs) e = absurd (cc e)

module _ (n : ℕ) (x : Sources) (r : IsRead n x.classes) (b : IsBase x.classes) (k : Keeps n x.classes) (types : Id → ℕ → Option (List StackType)) (handled : Id → ℕ → ℕ → Bool) where
  abbrev cs : Classes
  cs = x.classes

  abbrev p : Program
  p = program_of x

  abbrev pub typed : Typing
  typed = record { types = types; handled = handled; made = made cs; exception = ClassOf b.exception }

  abbrev o : Order cs
  o = order n cs r b k

  abbrev ms : Members cs
  ms = members n cs r b k

  abbrev os : Objects cs o (made cs)
  os = objects n cs r b k

  -- ---- what is assignable to classes of the library

  class_reached : (own : CliType) (z : Id) → made cs own ≡ true → kind_of cs z ≡ Some Reference → is_interface cs z ≡ false → fits cs own (ClassOf z) ≡ true → (c : Id) × (class_of_object cs own ≡ Some c) × (is_sub cs c z ≡ true)
  class_reached own z h q i f =
      let m = named n cs r b k own h in
      let way = way_to x o ms typed os own m.0 z m.1 m.2 (subst (λ w. fits cs own w ≡ true) (sym (type_is n cs r b k z Reference q)) f) in
      (m.0, m.1, class_way n cs r b k cs.size m.0 z i way)

  not_object : (z : Id) → kind_of cs z ≡ Some Reference → b.object ≡ z → ⊥
  not_object z q e = absurd (let bad : Some (Builtin elem.Object) ≡ Some Reference = sym (r.basic_kind b.object elem.Object b.object_is) ∙ (ap (kind_of cs) e ∙ q) in cc bad)

  value_not_enums : b.value ≡ b.enums → ⊥
  value_not_enums e = not_object b.value b.value_kind (let both : Some b.object ≡ Some b.value = sym b.value_super ∙ (ap (superclass_of cs) e ∙ b.enums_super) in cc both)

  -- an object that is no instance and has a class by its type alone is an array
  reference_array : (own : CliType) (c : Id) → made cs own ≡ true → is_instance_type own ≡ false → class_of_object cs own ≡ Some c → kind_of cs c ≡ Some Reference → (c ≡ b.arrays) × (is_array own ≡ true)
  reference_array (Basic e) c h i is q = absurd (let bad : Some (Builtin e) ≡ Some Reference = sym (r.basic_kind c e is) ∙ q in cc bad)
  reference_array (EnumOf e d) c h i is q =
      let same : d ≡ c = cc is in
      absurd (let bad : Some (Enumeration e) ≡ Some Reference = sym (enum_kind n cs r b k e d (made_enum n cs r b k e d h).1) ∙ (ap (kind_of cs) same ∙ q) in cc bad)
  reference_array (ClassOf d) c h i is q = absurd (cc i)
  reference_array (ValueOf d) c h i is q = absurd (cc h)
  reference_array (ArrayOf a) c h i is q = (same_some n cs r b k c b.arrays (array cs) is b.arrays_is, refl)

  pub exceptions : (own : CliType) → made cs own ≡ true → fits cs own (ClassOf b.exception) ≡ true → (c : Id) × (own ≡ ClassOf c)
  exceptions own h f = ⊎_elim (λ i. instance_type own i) (λ i. absurd (never i)) (cases_Bool (is_instance_type own))
    where
      never : is_instance_type own ≡ false → ⊥
      never i =
          let c = class_reached own b.exception h b.exception_kind (no_interface n cs r b k b.exception b.object b.exception_super) f in
          by c.0 c.1 (low_way n cs r b k cs.size c.0 b.exception (low_object n cs r b k own c.0 h i c.1) c.2)
        where
          by : (c : Id) → class_of_object cs own ≡ Some c → Under n cs r b k c b.exception → ⊥
          by c is (inl e) = apart b.exception b.arrays b.exception_not_arrays (sym e ∙ (reference_array own c h i is (ap (kind_of cs) e ∙ b.exception_kind)).0)
          by c is (inr (inl e)) = not_object b.value b.value_kind (let both : Some b.object ≡ Some b.value = sym b.exception_super ∙ (ap (superclass_of cs) (sym e) ∙ b.enums_super) in cc both)
          by c is (inr (inr (inl e))) = apart b.exception b.value b.exception_not_value (sym e)
          by c is (inr (inr (inr e))) = not_object b.exception b.exception_kind e

  -- an enum is a value type (26)
  pub enum_low : (c : Id) (e : Elem) → kind_of cs c ≡ Some (Enumeration e) → is_reference_class cs c ≡ false
  enum_low c e q = by (cs.class c) refl
    where
      by : (z : Option Class) → cs.class c ≡ z → is_reference_class cs c ≡ false
      by None h = absurd (let bad : None ≡ Some (Enumeration e) = sym (ap (option_map (λ k. k.kind)) h) ∙ q in cc bad)
      by (Some z) h =
          let same : z.kind ≡ Enumeration e = (let both : Some z.kind ≡ Some (Enumeration e) = sym (ap (option_map (λ k. k.kind)) h) ∙ q in cc both) in
          let w : value_well cs c (Enumeration e) ≡ true = subst (λ y. value_well cs c y ≡ true) same (k.values c z h) in
          ap (λ y. is_refers (cell_of y)) (type_is n cs r b k c (Enumeration e) q) ∙ bits_no_reference (elem_cell e) (integer_bits e (and_parts (is_integer e) _ w).0)

  builtin_not_under : (d : Id) (g : Elem) → basic cs g ≡ Some d → superclass_of cs d ≡ Some b.enums → ⊥
  builtin_not_under d g is e =
      ⊎_elim
      (λ h. value_not_enums (same_some n cs r b k b.value b.enums (superclass_of cs d) (b.number_super g d h is) e))
      (λ h. ⊎_elim
      (λ s. not_object b.enums b.enums_kind (same_some n cs r b k b.object b.enums (superclass_of cs d) (let same = same_some n cs r b k b.string d (basic cs elem.String) b.string_is (ap (basic cs) (sym s) ∙ is) in subst (λ z. superclass_of cs z ≡ Some b.object) same b.string_super) e))
      (λ s. let same = same_some n cs r b k b.object d (basic cs elem.Object) b.object_is (ap (basic cs) (sym s) ∙ is) in absurd (let bad : None ≡ Some b.enums = sym (object_super n cs r b k) ∙ (ap (superclass_of cs) same ∙ e) in cc bad))
      (refers_two g h))
      (builtin_sort n cs r b k g d is)

  right_under : (d : Id) → superclass_of cs d ≡ Some b.enums → (e : Elem) × (kind_of cs d ≡ Some (Enumeration e))
  right_under d e = by (kind_of cs d) refl
    where
      by : (q : Option TypeKind) → kind_of cs d ≡ q → (g : Elem) × (q ≡ Some (Enumeration g))
      by None h = absurd (let s = some_inv (cs.class d) (λ z. z.superclass) b.enums e in let bad : Some s.0.kind ≡ None = sym (ap (option_map (λ k. k.kind)) s.1) ∙ h in cc bad)
      by (Some Reference) h = absurd (r.reference d b.enums h e b.enums_is)
      by (Some (Builtin g)) h = absurd (builtin_not_under d g (r.builtin d g h) e)
      by (Some (Enumeration g)) h = (g, refl)
      by (Some OtherValue) h = absurd (value_not_enums (same_some n cs r b k b.value b.enums (superclass_of cs d) (r.other d h ∙ b.value_is) e))

  under_enums : (m : ℕ) (d : Id) → reaches m (above cs) d b.enums ≡ true → (d ≡ b.enums) ⊎ ((e : Elem) × (kind_of cs d ≡ Some (Enumeration e)))
  under_enums zero d h = inl (id_same d b.enums h)
  under_enums (suc m) d h =
      ⊎_elim (λ e. inl (id_same d b.enums e))
      (λ on. let q = any_at (λ z. reaches m (above cs) z b.enums) (above cs d) on in
      let up = listed_inv (superclass_of cs d) q.0 q.1 q.2 in
      ⊎_elim
      (λ e. inr (right_under d (up ∙ ap Some e)))
      (λ e. absurd (both_ways (is_reference_class cs q.1) (enum_low q.1 e.0 e.1) (extended n cs r b k d q.1 up).reference))
      (under_enums m q.1 q.3))
      (or_cases (id_eq d b.enums) (list_any (λ z. reaches m (above cs) z b.enums) (above cs d)) h)

  -- right under ValueType or Object there is no way to Enum
  past_enums : (m : ℕ) (c : Id) → (superclass_of cs c ≡ Some b.value) ⊎ (superclass_of cs c ≡ Some b.object) → reaches m (above cs) c b.enums ≡ true → c ≡ b.enums
  past_enums m c (inl e) h = ⊎_elim (λ s. s) (λ q. absurd (⊎_elim (λ s. value_not_enums s) (λ s. not_object b.enums b.enums_kind s) (from_value n cs r b k q.0 b.enums q.1))) (step_to n cs r b k m c b.value b.enums e h)
  past_enums m c (inr e) h = ⊎_elim (λ s. s) (λ q. absurd (not_object b.enums b.enums_kind (from_object n cs r b k q.0 b.enums q.1))) (step_to n cs r b k m c b.object b.enums e h)

  pub only_enums : OnlyEnums p typed b.enums
  only_enums own h f =
      let c = class_reached own b.enums h b.enums_kind (no_interface n cs r b k b.enums b.value b.enums_super) f in
      by own h c.0 c.1 c.2
    where
      by : (own : CliType) → made cs own ≡ true → (c : Id) → class_of_object cs own ≡ Some c → is_sub cs c b.enums ≡ true → is_enum own ≡ true
      by (EnumOf e d) h c is way = refl
      by (ValueOf d) h c is way = absurd (cc h)
      by (Basic e) h c is way =
          let low : (superclass_of cs c ≡ Some b.value) ⊎ (superclass_of cs c ≡ Some b.object) = ⊎_elim (λ g. inl (b.number_super e c g is)) (λ g. inr (let same = same_some n cs r b k b.string c (basic cs elem.String) b.string_is (ap (basic cs) (sym g) ∙ is) in subst (λ z. superclass_of cs z ≡ Some b.object) same b.string_super)) (made_basic n cs r b k e h) in
          absurd (let bad : Some (Builtin e) ≡ Some Reference = sym (r.basic_kind c e is) ∙ (ap (kind_of cs) (past_enums cs.size c low way) ∙ b.enums_kind) in cc bad)
      by (ArrayOf a) h c is way =
          let same = same_some n cs r b k b.arrays c (array cs) b.arrays_is is in
          let here : b.arrays ≡ b.enums = same ∙ past_enums cs.size c (inr (subst (λ z. superclass_of cs z ≡ Some b.object) same (arrays_super n cs r b k))) way in
          absurd (not_object b.value b.value_kind (same_some n cs r b k b.object b.value (superclass_of cs b.arrays) (arrays_super n cs r b k) (ap (superclass_of cs) here ∙ b.enums_super)))
      by (ClassOf d) h c is way =
          let q = instance_of n cs r b k d h in
          let same : d ≡ c = cc is in
          absurd (⊎_elim
          (λ e. let a = holds_inv (cs.class b.enums) (λ k. k.is_abstract) b.enums_abstract in
          let one : q.class ≡ a.0 = (let both : Some q.class ≡ Some a.0 = sym q.there ∙ (ap cs.class (same ∙ e) ∙ a.1) in cc both) in
          both_ways q.class.is_abstract q.whole (ap (λ (z : Class). z.is_abstract) one ∙ a.2))
          (λ e. both_ways (is_reference_class cs d) (enum_low d e.0 (ap (kind_of cs) same ∙ e.1)) q.reference)
          (under_enums cs.size c way))

  arrays_alone : (m : ℕ) (c : Id) → reaches m (above cs) c b.arrays ≡ true → c ≡ b.arrays
  arrays_alone zero c h = id_same c b.arrays h
  arrays_alone (suc m) c h =
      ⊎_elim (λ e. id_same c b.arrays e)
      (λ on. let q = any_at (λ z. reaches m (above cs) z b.arrays) (above cs c) on in
      absurd (both_ways (some_eq (Some q.1) (array cs)) (extended n cs r b k c q.1 (listed_inv (superclass_of cs c) q.0 q.1 q.2)).not_arrays (both_some (Some q.1) (array cs) q.1 refl (b.arrays_is ∙ ap Some (sym (arrays_alone m q.1 q.3))))))
      (or_cases (id_eq c b.arrays) (list_any (λ z. reaches m (above cs) z b.arrays) (above cs c)) h)

  pub only_arrays : OnlyArrays p typed b.arrays
  only_arrays own h f =
      let c = class_reached own b.arrays h b.arrays_kind (no_interface n cs r b k b.arrays b.object (arrays_super n cs r b k)) f in
      by own h c.0 c.1 (arrays_alone cs.size c.0 c.2)
    where
      by : (own : CliType) → made cs own ≡ true → (c : Id) → class_of_object cs own ≡ Some c → c ≡ b.arrays → is_array own ≡ true
      by (ArrayOf a) h c is e = refl
      by (ClassOf d) h c is e =
          let same : d ≡ c = cc is in
          absurd (both_ways (some_eq (Some d) (array cs)) (instance_of n cs r b k d h).not_arrays (both_some (Some d) (array cs) d refl (b.arrays_is ∙ ap Some (sym (same ∙ e)))))
      by (Basic g) h c is e = (reference_array (Basic g) c h refl is (ap (kind_of cs) e ∙ b.arrays_kind)).1
      by (EnumOf g d) h c is e = (reference_array (EnumOf g d) c h refl is (ap (kind_of cs) e ∙ b.arrays_kind)).1
      by (ValueOf d) h c is e = absurd (cc h)

  -- ---- fields (27)

  class_plain : (c : Id) → is_reference_class cs c ≡ true → is_plain (type_of_class cs c) ≡ true
  class_plain c h = by (kind_of cs c) h
    where
      by : (q : Option TypeKind) → is_refers (cell_of (type_by_kind q c)) ≡ true → is_plain (type_by_kind q c) ≡ true
      by None h = refl
      by (Some Reference) h = refl
      by (Some (Builtin g)) h = refers_some (elem_cell g) h
      by (Some (Enumeration g)) h = refers_some (elem_cell g) h
      by (Some OtherValue) h = absurd (cc h)

  value_plain : (c : Id) → is_number (type_of_class cs c) ≡ true → is_plain (type_of_class cs c) ≡ true
  value_plain c h = by (kind_of cs c) h
    where
      by : (q : Option TypeKind) → is_number (type_by_kind q c) ≡ true → is_plain (type_by_kind q c) ≡ true
      by None h = absurd (cc h)
      by (Some Reference) h = absurd (cc h)
      by (Some (Builtin g)) h = bits_some (elem_cell g) h
      by (Some (Enumeration g)) h = bits_some (elem_cell g) h
      by (Some OtherValue) h = absurd (cc h)

  pub sig_plain : (s : SigType) → sig_fits cs s ≡ true → is_plain (type_of cs s) ≡ true
  sig_plain (Spelt e) h = h
  sig_plain (ClassToken c) h = class_plain c h
  sig_plain (ValueToken c) h = value_plain c h
  sig_plain (ArraySig s) h = sig_plain s h

  in_fields : (m : ℕ) (c : Id) (i : ℕ) (f : OwnField) → slice_get (instance_fields_within m cs c) i ≡ Some f → (d : Id) × (j : ℕ) × (slice_get (fields_of cs d) j ≡ Some f) × (is_instance f ≡ true)
  in_fields zero c i f e = let q = filter_in is_instance (fields_of cs c) i f e in (c, q.0, q.1, q.2)
  in_fields (suc m) c i f e =
      ⊎_elim
      (λ h. by (superclass_of cs c) h (λ d h. in_fields m d i f h))
      (λ h. let q = filter_in is_instance (fields_of cs c) h.0 f h.1 in (c, q.0, q.1, q.2))
      (split_list (unwrap_or (option_map (instance_fields_within m cs) (superclass_of cs c)) []) (own_instance_fields cs c) i f e)
    where
      by : (q : Option Id) → slice_get (unwrap_or (option_map (instance_fields_within m cs) q) []) i ≡ Some f → ((d : Id) → slice_get (instance_fields_within m cs d) i ≡ Some f → (d : Id) × (j : ℕ) × (slice_get (fields_of cs d) j ≡ Some f) × (is_instance f ≡ true)) → (d : Id) × (j : ℕ) × (slice_get (fields_of cs d) j ≡ Some f) × (is_instance f ≡ true)
      by None h go = absurd (cc h)
      by (Some d) h go = go d h

  pub plain_fields : (c : Id) (ts : List CliType) (i : ℕ) (type : CliType) → fields cs c ≡ Some ts → slice_get ts i ≡ Some type → is_plain type ≡ true
  plain_fields c ts i type e h =
      let t = types_at cs (instance_fields cs c) ts i type (fields_inv cs c ts e) h in
      let q = in_fields cs.size c i t.0 t.1 in
      let w = part_of (cs.class q.0) (λ z. z.fields) q.1 t.0 q.2 in
      let f = holds_inv t.0.signature (λ s. if is_data_kind t.0.kind then data_sig_fits cs s else sig_fits cs s) (all_at (field_signature_fits cs) w.0.fields q.1 t.0 (k.field_signatures q.0 w.0 w.1) w.2) in
      let same : type_of cs f.0 ≡ type = (let both : Some (type_of cs f.0) ≡ Some type = sym (ap (option_map (type_of cs)) f.1) ∙ t.2 in cc both) in
      let fits : sig_fits cs f.0 ≡ true = sym (ap (λ (d : Bool). if d then data_sig_fits cs f.0 else sig_fits cs f.0) (no_data t.0.kind q.3)) ∙ f.2 in
      subst (λ z. is_plain z ≡ true) same (sig_plain f.0 fits)

  -- ---- the library's exceptions

  pub makes : (q : Known) → Makes p typed q
  makes q =
      let c = holds_inv (known cs q) (λ c. is_made cs c && (under_object cs c && is_some (fields cs c))) (b.throws q) in
      let u = and_parts (is_made cs c.0) (under_object cs c.0 && is_some (fields cs c.0)) c.2 in
      let w = and_parts (under_object cs c.0) (is_some (fields cs c.0)) u.1 in
      let f = by (fields cs c.0) w.1 in
      record { class = c.0; types = f.0; is = c.1; fields = f.1; made = and_from (is_made cs c.0) (under_object cs c.0) u.0 w.0 }
    where
      by : (z : Option (List CliType)) → is_some z ≡ true → (ts : List CliType) × (z ≡ Some ts)
      by None h = absurd (cc h)
      by (Some ts) h = (ts, refl)

  -- ---- natives

  pub native_fits : (name : NativeName) (m : Method) → m.arguments ≡ native_takes b.enums b.arrays b.handle name → m.returns ≡ native_gives name → NativeFits p typed m name
  native_fits ObjectToString m e h = (e, h)
  native_fits EnumEquals m e h = (b.enums, only_enums, (e, h))
  native_fits EnumToString m e h = (b.enums, only_enums, (e, h))
  native_fits ArrayLength m e h = (b.arrays, only_arrays, (e, h))
  native_fits ArrayCopy m e h = (b.arrays, only_arrays, (e, h))
  native_fits StringLength m e h = (e, h)
  native_fits StringChars m e h = (e, h)
  native_fits StringConcat m e h = (e, h)
  native_fits StringSubstring m e h = (e, h)
  native_fits StringEquals m e h = (e, h)
  native_fits StringCompare m e h = (e, h)
  native_fits StringFromChars m e h = (e, h)
  native_fits StringFromChar m e h = (e, h)
  native_fits NumberSigned m e h = (e, h)
  native_fits NumberUnsigned m e h = (e, h)
  native_fits InitializeArray m e h = (b.arrays, b.handle, only_arrays, (e, h))
  native_fits DebugPrint m e h = (e, h)
