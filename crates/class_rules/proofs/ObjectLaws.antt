-- What the kinds of classes give: fields are inherited, and only instances have them.
use Rattle.std.proofs.Common.{◌≡◌, ◌⊎◌, inl, inr, ⊎_elim, ℕ, zero, suc, ◌≤◌, Bool, true, false, List, [], ◌∷◌, ◌++◌, Option, Some, None, refl, sym, ap, ◌∙◌, subst, arith}
use Rattle.std.specs.Prelude.{slice_get, unwrap_or}
use Rattle.std.specs.Option.{option_map}
use Rattle.std.specs.List.{list_all}
use Rattle.std.proofs.lemmas.Bool.{and_parts, or_cases, both_ways, and_from}
use Rattle.plain_types.specs.declared.elem.Elem.TheVariants as elem
use Rattle.machine.specs.Data.{Id, id_eq, CliType, Basic, EnumOf, ClassOf, ValueOf, ArrayOf, Cell, Bits, Refers, cell_of, type_eq}
use Rattle.machine_typed.specs.Typing.{is_refers}
use Rattle.machine_typed.specs.Accepted.{Typing, HasInstances, elements_by as typed_elements_by, elements_fit}
use Rattle.machine_typed.proofs.Heaps.{some_inv}
use Rattle.machine_typed.proofs.Types.{id_same, type_same, plain_cell, width_here}
use Rattle.classes.specs.Classes.{Classes, OwnField}
use Rattle.classes.specs.Code.{Sources}
use Rattle.classes.specs.Listed.{program_of}
use Rattle.classes.specs.Queries.{reaches, ends, above, parents, superclass_of, interfaces_of, listed, is_sub, is_or_implements, is_interface, own_instance_fields, instance_fields_within, instance_fields, field_types, cons_some, fields, class_of, type_of, type_of_class, fits, elements_by, is_object, array}
use Rattle.class_rules.specs.Facts.{Order, Members, Objects, Kinds, Filled, class_of_object, is_instance_type}
use Rattle.class_rules.proofs.Ways.{or_left, or_right, any_at, at_any, all_at}
use Rattle.class_rules.proofs.FitsLaws.{same_fits, Sort, IsOne, IsArray, sort, OneBasic, one, array_one, one_array, object_class, classes_both, some_both}
use Rattle.class_rules.proofs.DispatchLaws.{way_to}

-- ---- fields

get_left : {A : Type 0} (xs ys : List A) (k : ℕ) (c : A) → slice_get xs k ≡ Some c → slice_get (xs ++ ys) k ≡ Some c
get_left [] ys k c e = absurd (cc e)
get_left (x ∷ xs) ys zero c e = e
get_left (x ∷ xs) ys (suc k) c e = get_left xs ys k c e

all_left : {A : Type 0} (test : A → Bool) (xs ys : List A) → list_all test (xs ++ ys) ≡ true → list_all test xs ≡ true
all_left test [] ys e = refl
all_left test (x ∷ xs) ys e = let r = and_parts (test x) (list_all test (xs ++ ys)) e in and_from (test x) (list_all test xs) r.0 (all_left test xs ys r.1)

module _ (cs : Classes) where
  each_super : (n : ℕ) (xs : List Id) → ((d : Id) → ends n (parents cs) d ≡ true → ends n (above cs) d ≡ true) → list_all (ends n (parents cs)) xs ≡ true → list_all (ends n (above cs)) xs ≡ true
  each_super n [] go e = refl
  each_super n (d ∷ ds) go e = let r = and_parts (ends n (parents cs) d) (list_all (ends n (parents cs)) ds) e in and_from (ends n (above cs) d) (list_all (ends n (above cs)) ds) (go d r.0) (each_super n ds go r.1)

  -- where no way up goes in a circle, no chain of superclasses does
  ends_super : (n : ℕ) (c : Id) → ends n (parents cs) c ≡ true → ends n (above cs) c ≡ true
  ends_super zero c e = e
  ends_super (suc n) c e = each_super n (above cs c) (λ d h. ends_super n d h) (all_left (ends n (parents cs)) (above cs c) (interfaces_of cs c) e)

  more_by : (n m : ℕ) (own : List OwnField) (o : Option Id) → list_all (ends n (above cs)) (listed o) ≡ true → ((d : Id) → ends n (above cs) d ≡ true → instance_fields_within m cs d ≡ instance_fields_within n cs d) → unwrap_or (option_map (instance_fields_within m cs) o) [] ++ own ≡ unwrap_or (option_map (instance_fields_within n cs) o) [] ++ own
  more_by n m own None e more = refl
  more_by n m own (Some d) e more = ap (λ xs. xs ++ own) (more d (and_parts (ends n (above cs) d) true e).0)

  -- more fuel changes nothing where a chain ends
  fields_more : (n m : ℕ) (c : Id) → ends n (above cs) c ≡ true → n ≤ m → instance_fields_within m cs c ≡ instance_fields_within n cs c
  fields_more zero m c e low = absurd (cc e)
  fields_more (suc n) zero c e low = absurd (omega arith)
  fields_more (suc n) (suc m) c e low = more_by n m (own_instance_fields cs c) (superclass_of cs c) e (λ d h. fields_more n m d h (omega arith))

  -- the fields of a class above come first
  abbrev First : ℕ → Id → ℕ → Id → Type 0
  First n c k d = (i : ℕ) (f : OwnField) → slice_get (instance_fields_within k cs d) i ≡ Some f → slice_get (instance_fields_within n cs c) i ≡ Some f

  first_up : (n : ℕ) (c d : Id) (j : ℕ) (o : Option Id) → superclass_of cs c ≡ o → slice_get (listed o) j ≡ Some d → First (suc n) c n d
  first_up n c d j None up e = absurd (cc e)
  first_up n c d zero (Some s) up e = λ i f h. let same : s ≡ d = cc e in get_left (unwrap_or (option_map (instance_fields_within n cs) (superclass_of cs c)) []) (own_instance_fields cs c) i f (ap (λ o. slice_get (unwrap_or (option_map (instance_fields_within n cs) o) []) i) up ∙ (ap (λ z. slice_get (instance_fields_within n cs z) i) same ∙ h))
  first_up n c d (suc j) (Some s) up e = absurd (cc e)

  inherited : (k n : ℕ) (c d : Id) → reaches k (above cs) c d ≡ true → ends n (above cs) c ≡ true → (m : ℕ) × (ends m (above cs) d ≡ true) × (m ≤ n) × First n c m d
  inherited k zero c d h e = absurd (cc e)
  inherited zero (suc n) c d h e = let same = id_same c d h in (suc n, subst (λ z. ends (suc n) (above cs) z ≡ true) same e, omega arith, λ i f g. ap (λ z. slice_get (instance_fields_within (suc n) cs z) i) same ∙ g)
  inherited (suc k) (suc n) c d h e =
      ⊎_elim
      (λ here. let same = id_same c d here in (suc n, subst (λ z. ends (suc n) (above cs) z ≡ true) same e, omega arith, λ i f g. ap (λ z. slice_get (instance_fields_within (suc n) cs z) i) same ∙ g))
      (λ on. let r = any_at (λ z. reaches k (above cs) z d) (above cs c) on in
      let q = inherited k n r.1 d r.3 (all_at (ends n (above cs)) (above cs c) r.0 r.1 e r.2) in
      (q.0, q.1, omega (arith, q.2), λ i f g. first_up n c r.1 r.0 (superclass_of cs c) refl r.2 i f (q.3 i f g)))
      (or_cases (id_eq c d) _ h)

  abbrev pub TypedAt : List OwnField → ℕ → CliType → Type 0
  TypedAt fs n k = (f : OwnField) × (slice_get fs n ≡ Some f) × (option_map (type_of cs) f.signature ≡ Some k)

  types_by : (f : OwnField) (fs : List OwnField) (o : Option CliType) (q : Option (List CliType)) (ts : List CliType) (n : ℕ) (k : CliType) → option_map (type_of cs) f.signature ≡ o → field_types cs fs ≡ q → ((us : List CliType) (i : ℕ) → field_types cs fs ≡ Some us → slice_get us i ≡ Some k → TypedAt fs i k) → cons_some o q ≡ Some ts → slice_get ts n ≡ Some k → TypedAt (f ∷ fs) n k
  types_by f fs None q ts n k eo eq go e h = absurd (cc e)
  types_by f fs (Some a) None ts n k eo eq go e h = absurd (cc e)
  types_by f fs (Some a) (Some us) ts zero k eo eq go e h = let same : a ∷ us ≡ ts = cc e in let g : Some a ≡ Some k = subst (λ z. slice_get z 0 ≡ Some k) (sym same) h in (f, refl, eo ∙ g)
  types_by f fs (Some a) (Some us) ts (suc n) k eo eq go e h = let same : a ∷ us ≡ ts = cc e in let r = go us n eq (subst (λ z. slice_get z (suc n) ≡ Some k) (sym same) h) in (r.0, r.1, r.2)

  pub types_at : (fs : List OwnField) (ts : List CliType) (n : ℕ) (k : CliType) → field_types cs fs ≡ Some ts → slice_get ts n ≡ Some k → TypedAt fs n k
  types_at [] ts n k e h = absurd (let same : [] ≡ ts = cc e in let g : slice_get [] n ≡ Some k = subst (λ z. slice_get z n ≡ Some k) (sym same) h in cc g)
  types_at (f ∷ fs) ts n k e h = types_by f fs (option_map (type_of cs) f.signature) (field_types cs fs) ts n k refl refl (λ us i g z. types_at fs us i k g z) e h

  at_by : (f : OwnField) (fs : List OwnField) (o : Option CliType) (q : Option (List CliType)) (ts : List CliType) (n : ℕ) (g : OwnField) (k : CliType) → option_map (type_of cs) f.signature ≡ o → field_types cs fs ≡ q → ((us : List CliType) (i : ℕ) → field_types cs fs ≡ Some us → slice_get fs i ≡ Some g → slice_get us i ≡ Some k) → option_map (type_of cs) g.signature ≡ Some k → cons_some o q ≡ Some ts → slice_get (f ∷ fs) n ≡ Some g → slice_get ts n ≡ Some k
  at_by f fs None q ts n g k eo eq go typed e h = absurd (cc e)
  at_by f fs (Some a) None ts n g k eo eq go typed e h = absurd (cc e)
  at_by f fs (Some a) (Some us) ts zero g k eo eq go typed e h =
      let same : a ∷ us ≡ ts = cc e in
      let here : f ≡ g = cc h in
      let one : Some a ≡ Some k = sym eo ∙ (ap (λ z. option_map (type_of cs) z.signature) here ∙ typed) in
      subst (λ z. slice_get z 0 ≡ Some k) same one
  at_by f fs (Some a) (Some us) ts (suc n) g k eo eq go typed e h = let same : a ∷ us ≡ ts = cc e in subst (λ z. slice_get z (suc n) ≡ Some k) same (go us n eq h)

  at_types : (fs : List OwnField) (ts : List CliType) (n : ℕ) (g : OwnField) (k : CliType) → option_map (type_of cs) g.signature ≡ Some k → field_types cs fs ≡ Some ts → slice_get fs n ≡ Some g → slice_get ts n ≡ Some k
  at_types [] ts n g k typed e h = absurd (cc h)
  at_types (f ∷ fs) ts n g k typed e h = at_by f fs (option_map (type_of cs) f.signature) (field_types cs fs) ts n g k refl refl (λ us i z w. at_types fs us i g k typed z w) typed e h

  pub fields_inv : (c : Id) (ts : List CliType) → fields cs c ≡ Some ts → field_types cs (instance_fields cs c) ≡ Some ts
  fields_inv c ts e = (some_inv (cs.class c) _ ts e).2

  -- the types of inherited fields come first
  pub inherits : Order cs → (c d : Id) (ks js : List CliType) (n : ℕ) (k : CliType) → is_sub cs c d ≡ true → fields cs d ≡ Some ks → fields cs c ≡ Some js → slice_get ks n ≡ Some k → slice_get js n ≡ Some k
  inherits o c d ks js n k sub ed ec h =
      let r = inherited cs.size cs.size c d sub (ends_super cs.size c (o.ends_above c)) in
      let f = types_at (instance_fields cs d) ks n k (fields_inv d ks ed) h in
      let low : slice_get (instance_fields_within r.0 cs d) n ≡ Some f.0 = ap (λ z. slice_get z n) (sym (fields_more r.0 cs.size d r.1 r.2)) ∙ f.1 in
      at_types (instance_fields cs c) js n f.0 k f.2 (fields_inv c js ec) (r.3 n f.0 low)

  -- ---- ways to a class that is no interface are ways up the superclasses

  interface_stays : (o : Order cs) (made : CliType → Bool) → Kinds cs o made → (n : ℕ) (c k : Id) → is_interface cs c ≡ true → reaches n (parents cs) c k ≡ true → is_interface cs k ≡ true
  interface_stays o made q zero c k i h = subst (λ z. is_interface cs z ≡ true) (id_same c k h) i
  interface_stays o made q (suc n) c k i h =
      ⊎_elim
      (λ e. subst (λ z. is_interface cs z ≡ true) (id_same c k e) i)
      (λ on. let r = any_at (λ d. reaches n (parents cs) d k) (parents cs c) on in
      let only : slice_get (interfaces_of cs c) r.0 ≡ Some r.1 = subst (λ z. slice_get (listed z ++ interfaces_of cs c) r.0 ≡ Some r.1) (q.no_super c i) r.2 in
      interface_stays o made q n r.1 k (q.interfaces_only c r.1 r.0 only) r.3)
      (or_cases (id_eq c k) _ h)

  pub split_at : {A : Type 0} (xs ys : List A) (n : ℕ) (z : A) → slice_get (xs ++ ys) n ≡ Some z → (slice_get xs n ≡ Some z) ⊎ ((m : ℕ) × (slice_get ys m ≡ Some z))
  split_at [] ys n z e = inr (n, e)
  split_at (x ∷ xs) ys zero z e = inl e
  split_at (x ∷ xs) ys (suc n) z e = split_at xs ys n z e

  class_way : (o : Order cs) (made : CliType → Bool) → Kinds cs o made → (n : ℕ) (c k : Id) → is_interface cs k ≡ false → reaches n (parents cs) c k ≡ true → reaches n (above cs) c k ≡ true
  class_way o made q zero c k i h = h
  class_way o made q (suc n) c k i h =
      ⊎_elim
      (λ e. or_left (id_eq c k) _ e)
      (λ on. let r = any_at (λ d. reaches n (parents cs) d k) (parents cs c) on in
      ⊎_elim
      (λ up. or_right (id_eq c k) _ (at_any (λ d. reaches n (above cs) d k) (above cs c) r.0 r.1 up (class_way o made q n r.1 k i r.3)))
      (λ y. absurd (both_ways (is_interface cs k) i (interface_stays o made q n r.1 k (q.interfaces_only c r.1 y.0 y.1) r.3)))
      (split_at (above cs c) (interfaces_of cs c) r.0 r.1 r.2))
      (or_cases (id_eq c k) _ h)

-- ---- what objects are assignable to a type

module _ (x : Sources) (o : Order x.classes) (ms : Members x.classes) (t : Typing) (os : Objects x.classes o t.made) (q : Kinds x.classes o t.made) where
  -- nothing but String reaches String
  string_way : (n : ℕ) (c : Id) → reaches n (parents x.classes) c q.string ≡ true → c ≡ q.string
  string_way zero c h = id_same c q.string h
  string_way (suc n) c h =
      ⊎_elim (λ e. id_same c q.string e)
      (λ on. let r = any_at (λ d. reaches n (parents x.classes) d q.string) (parents x.classes c) on in absurd (q.string_low c r.1 r.0 r.2 (string_way n r.1 r.3)))
      (or_cases (id_eq c q.string) _ h)

  not_object : is_object x.classes (Basic elem.String) ≡ true → ⊥
  not_object e =
      let both : Some o.object ≡ Some q.string = sym (object_class x.classes o (Basic elem.String) e) ∙ q.string_is in
      let same : o.object ≡ q.string = cc both in
      q.string_low o.arrays o.object 0 (ap (λ z. slice_get z 0) o.arrays_top) same

  -- what objects are assignable to String: strings alone
  pub texts : (own : CliType) → t.made own ≡ true → fits x.classes own (Basic elem.String) ≡ true → own ≡ Basic elem.String
  texts own made h = by own (sort x.classes o own) made h
    where
      by : (own : CliType) → Sort x.classes o own → t.made own ≡ true → fits x.classes own (Basic elem.String) ≡ true → own ≡ Basic elem.String
      by own (IsOne a sa) made h =
          ⊎_elim (λ e. type_same a (Basic elem.String) e)
          (λ e. ⊎_elim (λ g. absurd (not_object g))
          (λ g. let r = classes_both x.classes (class_of x.classes a) (class_of x.classes (Basic elem.String)) g in
          let end : r.1 ≡ q.string = let both : Some r.1 ≡ Some q.string = sym r.3 ∙ q.string_is in cc both in
          q.string_alone a made (r.2 ∙ ap Some (string_way x.classes.size r.0 (subst (λ z. is_or_implements x.classes r.0 z ≡ true) end r.4))))
          (or_cases (is_object x.classes (Basic elem.String)) _ e))
          (or_cases (type_eq a (Basic elem.String)) _ (sym (one x.classes o a (Basic elem.String) sa (OneBasic elem.String)) ∙ h))
      by own (IsArray a) made h =
          ⊎_elim (λ g. absurd (not_object g))
          (λ g. let s = some_both (class_of x.classes (Basic elem.String)) (array x.classes) g in
          absurd (q.string_not_arrays (let both : Some o.arrays ≡ Some q.string = sym o.arrays_is ∙ (s.2 ∙ (sym s.1 ∙ q.string_is)) in cc both)))
          (or_cases (is_object x.classes (Basic elem.String)) _ (sym (array_one x.classes o a (Basic elem.String) (OneBasic elem.String)) ∙ h))

  same_elements : (a b : Option Cell) (below : Bool) → elements_by a b below ≡ true → typed_elements_by a b below ≡ true
  same_elements (Some (Bits i)) (Some (Bits j)) below e = e
  same_elements (Some Refers) (Some Refers) below e = e
  same_elements None b below e = absurd (cc e)
  same_elements (Some (Bits i)) None below e = absurd (cc e)
  same_elements (Some (Bits i)) (Some Refers) below e = absurd (cc e)
  same_elements (Some Refers) None below e = absurd (cc e)
  same_elements (Some Refers) (Some (Bits j)) below e = absurd (cc e)

  -- to an array type: arrays alone, by their elements
  pub arrays : (own a : CliType) → t.made own ≡ true → fits x.classes own (ArrayOf a) ≡ true → (b : CliType) × (own ≡ ArrayOf b) × (elements_fit (program_of x) b a ≡ true)
  arrays own a made h = by own (sort x.classes o own) made h
    where
      alike : (b : CliType) (c : Cell) → cell_of b ≡ Some c → elements_fit (program_of x) b b ≡ true
      alike b c e = subst (λ z. typed_elements_by z z (fits x.classes b b) ≡ true) (sym e) (at c)
        where
          at : (c : Cell) → typed_elements_by (Some c) (Some c) (fits x.classes b b) ≡ true
          at (Bits i) = width_here (Bits i)
          at Refers = same_fits x.classes o b

      by : (own : CliType) → Sort x.classes o own → t.made own ≡ true → fits x.classes own (ArrayOf a) ≡ true → (b : CliType) × (own ≡ ArrayOf b) × (elements_fit (program_of x) b a ≡ true)
      by own (IsOne y sy) made h = absurd (let bad : true ≡ false = sym h ∙ one_array x.classes o y a sy in cc bad)
      by own (IsArray b) made h =
          ⊎_elim
          (λ e. let c = plain_cell b (q.plain_objects (ArrayOf b) made) in (b, refl, subst (λ z. elements_fit (program_of x) b z ≡ true) (type_same b a e) (alike b c.0 c.1)))
          (λ e. (b, refl, same_elements (cell_of b) (cell_of a) (fits x.classes b a) e))
          (or_cases (type_eq b a) _ h)

  -- only instances of the class, and of those below it, are assignable to a class with instance fields
  pub has_instances : (owner : Id) → type_of_class x.classes owner ≡ ClassOf owner → is_interface x.classes owner ≡ false → HasInstances (program_of x) t owner
  has_instances owner kind no_interface own types n type made fit fielded there = by (is_instance_type own) refl
    where
      named : (c : Id) × (class_of_object x.classes own ≡ Some c) × (is_or_implements x.classes c o.object ≡ true) × Filled x.classes c
      named = os.named own made

      way : is_or_implements x.classes named.0 owner ≡ true
      way = way_to x o ms t os own named.0 owner named.1 named.2 (subst (λ z. fits x.classes own z ≡ true) (sym kind) fit)

      instance : (own : CliType) → is_instance_type own ≡ true → class_of_object x.classes own ≡ Some named.0 → own ≡ ClassOf named.0
      instance (ClassOf c) e h = let same : c ≡ named.0 = cc h in ap ClassOf same
      instance (Basic e2) e h = absurd (cc e)
      instance (EnumOf e2 c) e h = absurd (cc e)
      instance (ValueOf c) e h = absurd (cc e)
      instance (ArrayOf a) e h = absurd (cc e)

      by : (b : Bool) → is_instance_type own ≡ b → (c : Id) × (own ≡ ClassOf c) × (is_sub x.classes c owner ≡ true)
      by true e = (named.0, instance own e named.1, class_way x.classes o t.made q x.classes.size named.0 owner no_interface way)
      by false e =
          let flat = q.flat own named.0 owner made e named.1 way (ap (λ z. is_refers (cell_of z)) kind) in
          absurd (let typed : field_types x.classes [] ≡ Some types = subst (λ z. field_types x.classes z ≡ Some types) flat (fields_inv x.classes owner types fielded) in
          let none : [] ≡ types = cc typed in
          let got : slice_get [] n ≡ Some type = subst (λ z. slice_get z n ≡ Some type) (sym none) there in cc got)
