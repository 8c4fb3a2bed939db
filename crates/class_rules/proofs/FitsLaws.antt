-- Assignability is an order.
use Rattle.std.proofs.Common.{◌≡◌, ⊎_elim, Bool, true, false, ◌||◌, Option, Some, None, refl, sym, ap, ◌∙◌, subst}
use Rattle.std.proofs.lemmas.Bool.{or_cases}
use Rattle.plain_types.specs.declared.elem.Elem.{Elem}
use Rattle.plain_types.specs.declared.elem.Elem.TheVariants as elem
use Rattle.machine.specs.Data.{Id, id_eq, CliType, Basic, EnumOf, ClassOf, ValueOf, ArrayOf, Cell, Bits, Refers, cell_of, type_eq}
use Rattle.machine_typed.proofs.Types.{id_same, type_same, type_here, width_up}
use Rattle.classes.specs.Classes.{Classes}
use Rattle.classes.specs.Queries.{parents, basic, array, is_or_implements, class_of, some_eq, is_object, classes_fit, elements_by, fits}
use Rattle.class_rules.specs.Facts.{Order}
use Rattle.class_rules.proofs.Ways.{or_left, or_right, reach_up, reach_top, reach_one}

pub some_both : (a b : Option Id) → some_eq a b ≡ true → (c : Id) × (a ≡ Some c) × (b ≡ Some c)
some_both None b e = absurd (cc e)
some_both (Some a) None e = absurd (cc e)
some_both (Some a) (Some b) e = (a, refl, ap Some (sym (id_same a b e)))

pub id_here : (c : Id) → id_eq c c ≡ true
id_here c = type_here (ClassOf c)

pub both_some : (a b : Option Id) (c : Id) → a ≡ Some c → b ≡ Some c → some_eq a b ≡ true
both_some a b c e h = subst (λ z. some_eq z b ≡ true) (sym e) (subst (λ z. some_eq (Some c) z ≡ true) (sym h) (id_here c))

elements_up : (a b c : Option Cell) (x y z : Bool) → (x ≡ true → y ≡ true → z ≡ true) → elements_by a b x ≡ true → elements_by b c y ≡ true → elements_by a c z ≡ true
elements_up (Some (Bits i)) (Some (Bits j)) (Some (Bits k)) x y z up e h = width_up (Bits i) (Bits j) (Bits k) e h
elements_up (Some Refers) (Some Refers) (Some Refers) x y z up e h = up e h
elements_up None b c x y z up e h = absurd (cc e)
elements_up (Some (Bits i)) None c x y z up e h = absurd (cc e)
elements_up (Some (Bits i)) (Some Refers) c x y z up e h = absurd (cc e)
elements_up (Some (Bits i)) (Some (Bits j)) None x y z up e h = absurd (cc h)
elements_up (Some (Bits i)) (Some (Bits j)) (Some Refers) x y z up e h = absurd (cc h)
elements_up (Some Refers) None c x y z up e h = absurd (cc e)
elements_up (Some Refers) (Some (Bits j)) c x y z up e h = absurd (cc e)
elements_up (Some Refers) (Some Refers) None x y z up e h = absurd (cc h)
elements_up (Some Refers) (Some Refers) (Some (Bits k)) x y z up e h = absurd (cc h)

pub classes_both : (cs : Classes) (a b : Option Id) → classes_fit cs a b ≡ true → (x : Id) × (y : Id) × (a ≡ Some x) × (b ≡ Some y) × (is_or_implements cs x y ≡ true)
classes_both cs None b e = absurd (cc e)
classes_both cs (Some a) None e = absurd (cc e)
classes_both cs (Some a) (Some b) e = (a, b, refl, refl, e)

pub both_classes : (cs : Classes) (a b : Option Id) (x y : Id) → a ≡ Some x → b ≡ Some y → is_or_implements cs x y ≡ true → classes_fit cs a b ≡ true
both_classes cs a b x y e h k = subst (λ z. classes_fit cs z b ≡ true) (sym e) (subst (λ z. classes_fit cs (Some x) z ≡ true) (sym h) k)

module _ (cs : Classes) (o : Order cs) where
  pub same_fits : (a : CliType) → fits cs a a ≡ true
  same_fits (ArrayOf a) = or_left (type_eq a a) (elements_by (cell_of a) (cell_of a) (fits cs a a)) (type_here a)
  same_fits (Basic e) = or_left (type_eq (Basic e) (Basic e)) _ (type_here (Basic e))
  same_fits (EnumOf e c) = or_left (type_eq (EnumOf e c) (EnumOf e c)) _ (type_here (EnumOf e c))
  same_fits (ClassOf c) = or_left (type_eq (ClassOf c) (ClassOf c)) _ (type_here (ClassOf c))
  same_fits (ValueOf c) = or_left (type_eq (ValueOf c) (ValueOf c)) _ (type_here (ValueOf c))

  -- types that aren't arrays
  pub data Single : CliType → Type 0 where
    OneBasic : (e : Elem) → Single (Basic e)
    OneEnum : (e : Elem) (c : Id) → Single (EnumOf e c)
    OneClass : (c : Id) → Single (ClassOf c)
    OneValue : (c : Id) → Single (ValueOf c)

  abbrev pub one_fits : CliType → CliType → Bool
  one_fits a b = type_eq a b || (is_object cs b || classes_fit cs (class_of cs a) (class_of cs b))

  pub one : (a b : CliType) → Single a → Single b → fits cs a b ≡ one_fits a b
  one a b (OneBasic e) (OneBasic g) = refl
  one a b (OneBasic e) (OneEnum g d) = refl
  one a b (OneBasic e) (OneClass d) = refl
  one a b (OneBasic e) (OneValue d) = refl
  one a b (OneEnum e c) (OneBasic g) = refl
  one a b (OneEnum e c) (OneEnum g d) = refl
  one a b (OneEnum e c) (OneClass d) = refl
  one a b (OneEnum e c) (OneValue d) = refl
  one a b (OneClass c) (OneBasic g) = refl
  one a b (OneClass c) (OneEnum g d) = refl
  one a b (OneClass c) (OneClass d) = refl
  one a b (OneClass c) (OneValue d) = refl
  one a b (OneValue c) (OneBasic g) = refl
  one a b (OneValue c) (OneEnum g d) = refl
  one a b (OneValue c) (OneClass d) = refl
  one a b (OneValue c) (OneValue d) = refl

  abbrev pub array_fits : CliType → Bool
  array_fits b = is_object cs b || some_eq (class_of cs b) (array cs)

  pub array_one : (a b : CliType) → Single b → fits cs (ArrayOf a) b ≡ array_fits b
  array_one a b (OneBasic e) = refl
  array_one a b (OneEnum e c) = refl
  array_one a b (OneClass c) = refl
  array_one a b (OneValue c) = refl

  pub one_array : (a b : CliType) → Single a → fits cs a (ArrayOf b) ≡ false
  one_array a b (OneBasic e) = refl
  one_array a b (OneEnum e c) = refl
  one_array a b (OneClass c) = refl
  one_array a b (OneValue c) = refl

  pub data Sort : CliType → Type 0 where
    IsOne : (a : CliType) → Single a → Sort a
    IsArray : (a : CliType) → Sort (ArrayOf a)

  pub sort : (a : CliType) → Sort a
  sort (Basic e) = IsOne (Basic e) (OneBasic e)
  sort (EnumOf e c) = IsOne (EnumOf e c) (OneEnum e c)
  sort (ClassOf c) = IsOne (ClassOf c) (OneClass c)
  sort (ValueOf c) = IsOne (ValueOf c) (OneValue c)
  sort (ArrayOf a) = IsArray a

  -- what a type with Object's class is assignable to has Object's class
  pub object_class : (b : CliType) → is_object cs b ≡ true → class_of cs b ≡ Some o.object
  object_class b e =
      ⊎_elim
      (λ h. ap (class_of cs) (type_same b (Basic elem.Object) h) ∙ o.object_is)
      (λ h. let s = some_both (class_of cs b) (basic cs elem.Object) h in s.1 ∙ (sym s.2 ∙ o.object_is))
      (or_cases (type_eq b (Basic elem.Object)) (some_eq (class_of cs b) (basic cs elem.Object)) e)

  pub class_object : (b : CliType) → class_of cs b ≡ Some o.object → is_object cs b ≡ true
  class_object b e = or_right (type_eq b (Basic elem.Object)) (some_eq (class_of cs b) (basic cs elem.Object)) (both_some (class_of cs b) (basic cs elem.Object) o.object e o.object_is)

  -- from Object only to Object
  from_object : (b c : CliType) → Single b → Single c → is_object cs b ≡ true → fits cs b c ≡ true → is_object cs c ≡ true
  from_object b c sb sc e h =
      ⊎_elim
      (λ k. subst (λ z. is_object cs z ≡ true) (type_same b c k) e)
      (λ k. ⊎_elim (λ x. x) (λ x. class_object c (up (classes_both cs (class_of cs b) (class_of cs c) x))) (or_cases (is_object cs c) (classes_fit cs (class_of cs b) (class_of cs c)) k))
      (or_cases (type_eq b c) (is_object cs c || classes_fit cs (class_of cs b) (class_of cs c)) (sym (one b c sb sc) ∙ h))
    where
      up : ((x : Id) × (y : Id) × (class_of cs b ≡ Some x) × (class_of cs c ≡ Some y) × (is_or_implements cs x y ≡ true)) → class_of cs c ≡ Some o.object
      up (x, y, ex, ey, k) =
          let is : x ≡ o.object = let both : Some x ≡ Some o.object = sym ex ∙ object_class b e in cc both in
          let top : o.object ≡ y = reach_top (parents cs) cs.size o.object y o.object_top (subst (λ z. is_or_implements cs z y ≡ true) is k) in
          ey ∙ ap Some (sym top)

  to_object : (a c : CliType) → Single c → is_object cs c ≡ true → fits cs a c ≡ true
  to_object a c sc e = by a (sort a)
    where
      by : (a : CliType) → Sort a → fits cs a c ≡ true
      by x (IsOne y sy) = one y c sy sc ∙ or_right (type_eq y c) (is_object cs c || classes_fit cs (class_of cs y) (class_of cs c)) (or_left (is_object cs c) (classes_fit cs (class_of cs y) (class_of cs c)) e)
      by x (IsArray y) = array_one y c sc ∙ or_left (is_object cs c) (some_eq (class_of cs c) (array cs)) e

  array_up : (b c : CliType) → Single b → Single c → array_fits b ≡ true → fits cs b c ≡ true → array_fits c ≡ true
  array_up b c sb sc e h =
      ⊎_elim
      (λ k. or_left (is_object cs c) (some_eq (class_of cs c) (array cs)) (from_object b c sb sc k h))
      (λ k. ⊎_elim
      (λ x. subst (λ z. array_fits z ≡ true) (type_same b c x) e)
      (λ x. ⊎_elim (λ y. or_left (is_object cs c) (some_eq (class_of cs c) (array cs)) y) (λ y. on k (classes_both cs (class_of cs b) (class_of cs c) y)) (or_cases (is_object cs c) (classes_fit cs (class_of cs b) (class_of cs c)) x))
      (or_cases (type_eq b c) (is_object cs c || classes_fit cs (class_of cs b) (class_of cs c)) (sym (one b c sb sc) ∙ h)))
      (or_cases (is_object cs b) (some_eq (class_of cs b) (array cs)) e)
    where
      on : some_eq (class_of cs b) (array cs) ≡ true → ((x : Id) × (y : Id) × (class_of cs b ≡ Some x) × (class_of cs c ≡ Some y) × (is_or_implements cs x y ≡ true)) → array_fits c ≡ true
      on k (x, y, ex, ey, g) =
          let s = some_both (class_of cs b) (array cs) k in
          let is : x ≡ o.arrays = let both : Some x ≡ Some o.arrays = sym ex ∙ (s.1 ∙ (sym s.2 ∙ o.arrays_is)) in cc both in
          ⊎_elim
          (λ same. or_right (is_object cs c) (some_eq (class_of cs c) (array cs)) (both_some (class_of cs c) (array cs) o.arrays (ey ∙ ap Some (sym same)) o.arrays_is))
          (λ top. or_left (is_object cs c) (some_eq (class_of cs c) (array cs)) (class_object c (ey ∙ ap Some (sym top))))
          (reach_one (parents cs) cs.size o.arrays o.object y o.arrays_top o.object_top (subst (λ z. is_or_implements cs z y ≡ true) is g))

  one_up : (a b c : CliType) → Single a → Single b → Single c → fits cs a b ≡ true → fits cs b c ≡ true → fits cs a c ≡ true
  one_up a b c sa sb sc e h =
      ⊎_elim
      (λ k. subst (λ z. fits cs z c ≡ true) (sym (type_same a b k)) h)
      (λ k. ⊎_elim
      (λ x. to_object a c sc (from_object b c sb sc x h))
      (λ x. ⊎_elim
      (λ y. subst (λ z. fits cs a z ≡ true) (type_same b c y) e)
      (λ y. ⊎_elim (λ z. to_object a c sc z) (λ z. on (classes_both cs (class_of cs a) (class_of cs b) x) (classes_both cs (class_of cs b) (class_of cs c) z)) (or_cases (is_object cs c) (classes_fit cs (class_of cs b) (class_of cs c)) y))
      (or_cases (type_eq b c) (is_object cs c || classes_fit cs (class_of cs b) (class_of cs c)) (sym (one b c sb sc) ∙ h)))
      (or_cases (is_object cs b) (classes_fit cs (class_of cs a) (class_of cs b)) k))
      (or_cases (type_eq a b) (is_object cs b || classes_fit cs (class_of cs a) (class_of cs b)) (sym (one a b sa sb) ∙ e))
    where
      on : ((x : Id) × (y : Id) × (class_of cs a ≡ Some x) × (class_of cs b ≡ Some y) × (is_or_implements cs x y ≡ true)) → ((x : Id) × (y : Id) × (class_of cs b ≡ Some x) × (class_of cs c ≡ Some y) × (is_or_implements cs x y ≡ true)) → fits cs a c ≡ true
      on (x, y, ex, ey, g) (u, v, eu, ev, k) =
          let same : u ≡ y = let both : Some u ≡ Some y = sym eu ∙ ey in cc both in
          let way : is_or_implements cs x v ≡ true = reach_up (parents cs) cs.size cs.size cs.size x y v (o.ends_above x) g (subst (λ z. is_or_implements cs z v ≡ true) same k) in
          one a c sa sc ∙ or_right (type_eq a c) (is_object cs c || classes_fit cs (class_of cs a) (class_of cs c)) (or_right (is_object cs c) (classes_fit cs (class_of cs a) (class_of cs c)) (both_classes cs (class_of cs a) (class_of cs c) x v ex ev way))

  -- arrays of which the elements fit so
  rows_up : (a b c : CliType) → (fits cs a b ≡ true → fits cs b c ≡ true → fits cs a c ≡ true) → fits cs (ArrayOf a) (ArrayOf b) ≡ true → fits cs (ArrayOf b) (ArrayOf c) ≡ true → fits cs (ArrayOf a) (ArrayOf c) ≡ true
  rows_up a b c up e h =
      ⊎_elim
      (λ k. subst (λ z. fits cs (ArrayOf z) (ArrayOf c) ≡ true) (sym (type_same a b k)) h)
      (λ k. ⊎_elim
      (λ x. subst (λ z. fits cs (ArrayOf a) (ArrayOf z) ≡ true) (type_same b c x) e)
      (λ x. or_right (type_eq a c) (elements_by (cell_of a) (cell_of c) (fits cs a c)) (elements_up (cell_of a) (cell_of b) (cell_of c) (fits cs a b) (fits cs b c) (fits cs a c) up k x))
      (or_cases (type_eq b c) (elements_by (cell_of b) (cell_of c) (fits cs b c)) h))
      (or_cases (type_eq a b) (elements_by (cell_of a) (cell_of b) (fits cs a b)) e)

  -- to a type that is no array
  above_one : (a b c : CliType) → Single b → Sort a → Sort c → fits cs a b ≡ true → fits cs b c ≡ true → fits cs a c ≡ true
  above_one a b c sb (IsOne x sx) (IsOne z sz) e h = one_up x b z sx sb sz e h
  above_one a b c sb (IsArray x) (IsOne z sz) e h = array_one x z sz ∙ array_up b z sb sz (sym (array_one x b sb) ∙ e) h
  above_one a b c sb (IsOne x sx) (IsArray z) e h = absurd (let no : true ≡ false = sym h ∙ one_array b z sb in cc no)
  above_one a b c sb (IsArray x) (IsArray z) e h = absurd (let no : true ≡ false = sym h ∙ one_array b z sb in cc no)

  pub fits_up : (a b c : CliType) → fits cs a b ≡ true → fits cs b c ≡ true → fits cs a c ≡ true
  fits_up (ArrayOf a) (ArrayOf b) (ArrayOf c) e h = rows_up a b c (fits_up a b c) e h
  fits_up a (Basic g) c e h = above_one a (Basic g) c (OneBasic g) (sort a) (sort c) e h
  fits_up a (EnumOf g d) c e h = above_one a (EnumOf g d) c (OneEnum g d) (sort a) (sort c) e h
  fits_up a (ClassOf d) c e h = above_one a (ClassOf d) c (OneClass d) (sort a) (sort c) e h
  fits_up a (ValueOf d) c e h = above_one a (ValueOf d) c (OneValue d) (sort a) (sort c) e h
  fits_up (ArrayOf a) (ArrayOf b) (Basic g) e h = array_one a (Basic g) (OneBasic g) ∙ (sym (array_one b (Basic g) (OneBasic g)) ∙ h)
  fits_up (ArrayOf a) (ArrayOf b) (EnumOf g d) e h = array_one a (EnumOf g d) (OneEnum g d) ∙ (sym (array_one b (EnumOf g d) (OneEnum g d)) ∙ h)
  fits_up (ArrayOf a) (ArrayOf b) (ClassOf d) e h = array_one a (ClassOf d) (OneClass d) ∙ (sym (array_one b (ClassOf d) (OneClass d)) ∙ h)
  fits_up (ArrayOf a) (ArrayOf b) (ValueOf d) e h = array_one a (ValueOf d) (OneValue d) ∙ (sym (array_one b (ValueOf d) (OneValue d)) ∙ h)
  fits_up (Basic g) (ArrayOf b) c e h = absurd (cc e)
  fits_up (EnumOf g d) (ArrayOf b) c e h = absurd (cc e)
  fits_up (ClassOf d) (ArrayOf b) c e h = absurd (cc e)
  fits_up (ValueOf d) (ArrayOf b) c e h = absurd (cc e)
