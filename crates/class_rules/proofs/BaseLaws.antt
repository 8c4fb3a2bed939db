-- The test of the base library gives the facts that the laws of types need.
use Rattle.std.proofs.Common.{◌≡◌, ℕ, Bool, true, false, List, [], ◌∷◌, ◌++◌, map, Option, Some, None, refl, sym, ap, ◌∙◌, subst}
use Rattle.std.specs.Prelude.{codes, slice_get, is_some, unwrap_or}
use Rattle.std.specs.List.{list_all}
use Rattle.std.specs.Option.{option_map}
use Rattle.std.proofs.lemmas.Bool.{and_parts, not-true}
use Rattle.board_types.specs.declared.board.Known.{Known}
use Rattle.board_types.specs.declared.board.Known.TheVariants as exception
use Rattle.plain_types.specs.declared.elem.Elem.{Elem}
use Rattle.plain_types.specs.declared.elem.Elem.TheVariants as elem
use Rattle.machine.specs.Data.{Id, Basic, PlaceType, Plain, To, elem_cell}
use Rattle.machine.specs.Program.{Native, NativeName}
use Rattle.machine.specs.Throw.{on_some}
use Rattle.machine_typed.specs.Typing.{is_number}
use Rattle.machine_typed.proofs.Types.{id_same, type_same}
use Rattle.classes.specs.Classes.{Classes, Class, OwnMethod, Signature, TypeKind, Reference, Builtin, Enumeration, OtherValue}
use Rattle.classes.specs.Queries.{parents, superclass_of, methods_of, basic, knowns, elements, array, library_class, kind_of, some_eq, place_of, type_of}
use Rattle.classes.specs.Listed.{this_before}
use Rattle.class_rules.specs.Rules.{holds_some, is_user, only_if, is_none_there, may_be_extended}
use Rattle.class_rules.specs.Base.{IsBase, HasTypes, native_takes, native_gives, where_some, is_alone, is_class_kind, place_eq, places_eq, result_eq, extends_low, is_under, takes_well, natives_fit, facts, is_base}
use Rattle.class_rules.proofs.Ways.{all_at}
use Rattle.class_rules.proofs.FitsLaws.{some_both}
use Rattle.class_rules.proofs.Kept.{holds_inv, only_then}

-- ---- tests and what they tell

none_there : {A : Type 0} (xs : List A) → is_none_there xs ≡ true → xs ≡ []
none_there [] e = refl
none_there (x ∷ xs) e = absurd (cc e)

alone_there : (c : Id) (xs : List Id) → is_alone c xs ≡ true → xs ≡ c ∷ []
alone_there c [] e = absurd (cc e)
alone_there c (d ∷ []) e = ap (λ z. z ∷ []) (sym (id_same c d e))
alone_there c (d ∷ (b ∷ bs)) e = absurd (cc e)

pub same_some : (a : Option Id) (b : Id) → some_eq a (Some b) ≡ true → a ≡ Some b
same_some a b e = let r = some_both a (Some b) e in r.1 ∙ (sym r.2)

class_kind : (k : Option TypeKind) → is_class_kind k ≡ true → k ≡ Some Reference
class_kind None e = absurd (cc e)
class_kind (Some Reference) e = refl
class_kind (Some (Builtin g)) e = absurd (cc e)
class_kind (Some (Enumeration g)) e = absurd (cc e)
class_kind (Some OtherValue) e = absurd (cc e)

place_same : (a b : PlaceType) → place_eq a b ≡ true → a ≡ b
place_same (Plain a) (Plain b) e = ap Plain (type_same a b e)
place_same (To a) (To b) e = ap To (type_same a b e)
place_same (Plain a) (To b) e = absurd (cc e)
place_same (To a) (Plain b) e = absurd (cc e)

places_same : (as' bs : List PlaceType) → places_eq as' bs ≡ true → as' ≡ bs
places_same [] [] e = refl
places_same [] (b ∷ bs) e = absurd (cc e)
places_same (a ∷ as') [] e = absurd (cc e)
places_same (a ∷ as') (b ∷ bs) e =
    let both = and_parts (place_eq a b) (places_eq as' bs) e in
    ap (λ z. z ∷ as') (place_same a b both.0) ∙ ap (λ zs. b ∷ zs) (places_same as' bs both.1)

result_same : (a b : Option PlaceType) → result_eq a b ≡ true → a ≡ b
result_same None None e = refl
result_same (Some a) (Some b) e = ap Some (place_same a b e)
result_same None (Some b) e = absurd (cc e)
result_same (Some a) None e = absurd (cc e)

there : {A : Type 0} (o : Option A) (test : A → Bool) (x : A) → where_some o test ≡ true → o ≡ Some x → test x ≡ true
there o test x e h = subst (λ z. where_some z test ≡ true) h e

-- ---- the places of elements and exceptions in their lists

pub element_there : (test : Elem → Bool) → list_all test elements ≡ true → (e : Elem) → is_some (elem_cell e) ≡ true → test e ≡ true
element_there test h elem.Bool c = all_at test elements 0 elem.Bool h refl
element_there test h elem.Char c = all_at test elements 1 elem.Char h refl
element_there test h elem.I1 c = all_at test elements 2 elem.I1 h refl
element_there test h elem.U1 c = all_at test elements 3 elem.U1 h refl
element_there test h elem.I2 c = all_at test elements 4 elem.I2 h refl
element_there test h elem.U2 c = all_at test elements 5 elem.U2 h refl
element_there test h elem.I4 c = all_at test elements 6 elem.I4 h refl
element_there test h elem.U4 c = all_at test elements 7 elem.U4 h refl
element_there test h elem.I8 c = all_at test elements 8 elem.I8 h refl
element_there test h elem.U8 c = all_at test elements 9 elem.U8 h refl
element_there test h elem.String c = all_at test elements 10 elem.String h refl
element_there test h elem.Object c = all_at test elements 11 elem.Object h refl
element_there test h elem.Void c = absurd (cc c)
element_there test h elem.Class c = absurd (cc c)
element_there test h elem.Value c = absurd (cc c)

number_has : (e : Elem) → is_number (Basic e) ≡ true → is_some (elem_cell e) ≡ true
number_has elem.Bool h = refl
number_has elem.Char h = refl
number_has elem.I1 h = refl
number_has elem.U1 h = refl
number_has elem.I2 h = refl
number_has elem.U2 h = refl
number_has elem.I4 h = refl
number_has elem.U4 h = refl
number_has elem.I8 h = refl
number_has elem.U8 h = refl
number_has elem.String h = refl
number_has elem.Object h = refl
number_has elem.Void h = absurd (cc h)
number_has elem.Class h = absurd (cc h)
number_has elem.Value h = absurd (cc h)

known_there : (test : Known → Bool) → list_all test knowns ≡ true → (k : Known) → test k ≡ true
known_there test h exception.NullReference = all_at test knowns 0 exception.NullReference h refl
known_there test h exception.IndexOutOfRange = all_at test knowns 1 exception.IndexOutOfRange h refl
known_there test h exception.Overflow = all_at test knowns 2 exception.Overflow h refl
known_there test h exception.Arithmetic = all_at test knowns 3 exception.Arithmetic h refl
known_there test h exception.DivideByZero = all_at test knowns 4 exception.DivideByZero h refl
known_there test h exception.InvalidCast = all_at test knowns 5 exception.InvalidCast h refl
known_there test h exception.ArrayTypeMismatch = all_at test knowns 6 exception.ArrayTypeMismatch h refl
known_there test h exception.Argument = all_at test knowns 7 exception.Argument h refl
known_there test h exception.ArgumentNull = all_at test knowns 8 exception.ArgumentNull h refl
known_there test h exception.ArgumentOutOfRange = all_at test knowns 9 exception.ArgumentOutOfRange h refl

module _ (cs : Classes) (types : List Id) (has : HasTypes cs types) where
  -- a class with a superclass, and one with a method, is there
  super_there : (c d : Id) → superclass_of cs c ≡ Some d → (k : Class) × (cs.class c ≡ Some k)
  super_there c d e = by (cs.class c) refl e
    where
      by : (o : Option Class) → cs.class c ≡ o → superclass_of cs c ≡ Some d → (k : Class) × (cs.class c ≡ Some k)
      by None here h = absurd (let none : None ≡ Some d = sym (ap (λ o. on_some o (λ (k : Class). k.superclass)) here) ∙ h in cc none)
      by (Some k) here h = (k, here)

  method_there : (c : Id) (i : ℕ) (m : OwnMethod) → slice_get (methods_of cs c) i ≡ Some m → (k : Class) × (cs.class c ≡ Some k)
  method_there c i m e = by (cs.class c) refl e
    where
      by : (o : Option Class) → cs.class c ≡ o → slice_get (methods_of cs c) i ≡ Some m → (k : Class) × (cs.class c ≡ Some k)
      by None here h = absurd (let none : None ≡ Some m = sym (ap (λ o. slice_get (unwrap_or (option_map (λ (k : Class). k.methods) o) []) i) here) ∙ h in cc none)
      by (Some k) here h = (k, here)

  pub base_is_tested : is_base cs types ≡ true → IsBase cs
  base_is_tested e =
      let object = holds_inv (basic cs elem.Object) _ e in
      let string = holds_inv (basic cs elem.String) _ object.2 in
      let value = holds_inv (library_class cs (codes "ValueType")) _ string.2 in
      let enums = holds_inv (library_class cs (codes "Enum")) _ value.2 in
      let arrays = holds_inv (array cs) _ enums.2 in
      let exception = holds_inv (library_class cs (codes "Exception")) _ arrays.2 in
      let handle = holds_inv (library_class cs (codes "RuntimeFieldHandle")) _ exception.2 in
      found object.0 string.0 value.0 enums.0 arrays.0 exception.0 handle.0 object.1 string.1 value.1 enums.1 arrays.1 exception.1 handle.2
    where
      found : (object string value enums arrays exception handle : Id) → basic cs elem.Object ≡ Some object → basic cs elem.String ≡ Some string → library_class cs (codes "ValueType") ≡ Some value → library_class cs (codes "Enum") ≡ Some enums → array cs ≡ Some arrays → library_class cs (codes "Exception") ≡ Some exception → list_all (λ b. b) (facts cs types object string value enums arrays exception handle) ≡ true → IsBase cs
      found object string value enums arrays exception handle object_is string_is value_is enums_is arrays_is exception_is all =
          record {
            object = object;
            string = string;
            value = value;
            enums = enums;
            arrays = arrays;
            exception = exception;
            handle = handle;
            object_is = object_is;
            string_is = string_is;
            value_is = value_is;
            enums_is = enums_is;
            arrays_is = arrays_is;
            exception_is = exception_is;
            basics = element_there (λ e. is_some (basic cs e)) (fact 0 _ refl);
            object_top = none_there (parents cs object) (fact 1 _ refl);
            arrays_top = alone_there object (parents cs arrays) (fact 2 _ refl);
            string_super = same_some (superclass_of cs string) object (fact 3 _ refl);
            value_super = same_some (superclass_of cs value) object (fact 4 _ refl);
            enums_super = same_some (superclass_of cs enums) value (fact 5 _ refl);
            exception_super = same_some (superclass_of cs exception) object (fact 6 _ refl);
            number_super = number_super;
            object_class = not-true _ (fact 8 _ refl);
            value_kind = class_kind (kind_of cs value) (fact 9 _ refl);
            enums_kind = class_kind (kind_of cs enums) (fact 10 _ refl);
            arrays_kind = class_kind (kind_of cs arrays) (fact 11 _ refl);
            exception_kind = class_kind (kind_of cs exception) (fact 12 _ refl);
            enums_abstract = fact 13 _ refl;
            string_whole = fact 14 _ refl;
            value_not_arrays = not-true _ (fact 15 _ refl);
            exception_not_value = not-true _ (fact 16 _ refl);
            exception_not_arrays = not-true _ (fact 17 _ refl);
            object_bare = none_there _ (fact 18 _ refl);
            string_bare = none_there _ (fact 19 _ refl);
            value_bare = none_there _ (fact 20 _ refl);
            enums_bare = none_there _ (fact 21 _ refl);
            arrays_bare = none_there _ (fact 22 _ refl);
            low = low;
            arrays_filled = fact 24 _ refl;
            throws = known_there _ (fact 25 _ refl);
            natives = natives;
          }
        where
          fact : (n : ℕ) (b : Bool) → slice_get (facts cs types object string value enums arrays exception handle) n ≡ Some b → b ≡ true
          fact n b h = all_at (λ b. b) (facts cs types object string value enums arrays exception handle) n b all h

          number_super : (e : Elem) (c : Id) → is_number (Basic e) ≡ true → basic cs e ≡ Some c → superclass_of cs c ≡ Some value
          number_super e c number is =
              let test = element_there (λ e. only_if (is_number (Basic e)) (holds_some (basic cs e) (is_under cs (Some value)))) (fact 7 _ refl) e (number_has e number) in
              let r = holds_inv (basic cs e) (is_under cs (Some value)) (only_then (is_number (Basic e)) _ test number) in
              let same : r.0 ≡ c = (let both : Some r.0 ≡ Some c = sym r.1 ∙ is in cc both) in
              same_some (superclass_of cs c) value (subst (λ z. is_under cs (Some value) z ≡ true) same r.2)

          low : (c d : Id) → is_user c ≡ false → superclass_of cs c ≡ Some d → may_be_extended cs d ≡ true
          low c d user up =
              let k = super_there c d up in
              let at = has c k.0 user k.1 in
              there (superclass_of cs c) (may_be_extended cs) d (all_at (extends_low cs) types at.0 c (fact 23 _ refl) at.1) up

          natives : (c : Id) (i : ℕ) (m : OwnMethod) (s : Signature) (name : NativeName) → is_user c ≡ false → slice_get (methods_of cs c) i ≡ Some m → m.signature ≡ Some s → m.body ≡ Native name → (this_before cs c s ++ map (place_of cs) s.parameters ≡ native_takes enums arrays handle name) × (option_map (λ r. Plain (type_of cs r)) s.returns ≡ native_gives name)
          natives c i m s name user row signed body =
              let k = method_there c i m row in
              let at = has c k.0 user k.1 in
              let all_here = all_at (natives_fit cs enums arrays handle) types at.0 c (fact 26 _ refl) at.1 in
              let here = all_at (λ (m : OwnMethod). where_some m.signature (λ s. takes_well cs enums arrays handle c s m.body)) (methods_of cs c) i m all_here row in
              let whole = subst (λ z. takes_well cs enums arrays handle c s z ≡ true) body (there m.signature (λ s. takes_well cs enums arrays handle c s m.body) s here signed) in
              let both = and_parts (places_eq (this_before cs c s ++ map (place_of cs) s.parameters) (native_takes enums arrays handle name)) (result_eq (option_map (λ r. Plain (type_of cs r)) s.returns) (native_gives name)) whole in
              (places_same _ _ both.0, result_same _ _ both.1)
