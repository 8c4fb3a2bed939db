-- What the spellings of types of classes are.
use Rattle.std.proofs.Common.{◌≡◌, ◌⊎◌, inl, inr, ℕ, suc, List, true, false, Option, Some, None, refl, sym, ap, ◌∙◌, arith}
use Rattle.std.specs.Prelude.{is_some, nat_eq, Result, Ok, Err, IfOk}
use Rattle.std.proofs.lemmas.Bool.{and_parts, cases_Bool, eqb-true}
use Rattle.std.specs.Option.{option_map}
use Rattle.plain_types.specs.declared.elem.Elem.{Elem}
use Rattle.plain_types.specs.declared.elem.Elem.TheVariants as elem
use Rattle.ecma_types.specs.declared.id.TypeId.{TypeId}
use Rattle.ecma_types.specs.declared.stack.PlaceType.{PlaceType as WorldPlace}
use Rattle.machine.specs.Data.{Id, CliType, Basic, EnumOf}
use Rattle.machine_typed.specs.Typing.{O}
use Rattle.classes.specs.Classes.{Classes, Class, TypeKind, Reference, Builtin, Enumeration, OtherValue}
use Rattle.classes.specs.Queries.{basic_name, is_integer, kind_of, library_class, own_instance_fields, type_by_kind, type_of_class}
use Rattle.classes.specs.Reading.{IsRead}
use Rattle.class_rules.specs.Rules.{Keeps, is_one_of, value_well}
use Rattle.machine.specs.Throw.{on_some}
use Rattle.place_types.specs.Types.{base_type, id_of, id_up, no_type, number_by, stack_up, type_of, type_up}
use Rattle.cil_types.specs.Spelt.{AreSpelt, kind_spelt, type_spelt}

pub basic_place : (e : Elem) → is_some (basic_name e) ≡ true → base_type e no_type ≡ Basic e
basic_place elem.Void h = refl
basic_place elem.Bool h = refl
basic_place elem.Char h = refl
basic_place elem.I1 h = refl
basic_place elem.U1 h = refl
basic_place elem.I2 h = refl
basic_place elem.U2 h = refl
basic_place elem.I4 h = refl
basic_place elem.U4 h = refl
basic_place elem.I8 h = refl
basic_place elem.U8 h = refl
basic_place elem.String h = refl
basic_place elem.Object h = refl
basic_place elem.Class h = absurd (cc h)
basic_place elem.Value h = absurd (cc h)

module _ (t : TypeId) (c : Id) (at : id_of t ≡ id_up c) where
  number_place : (e : Elem) → number_by (nat_eq t.row 0) e (id_of t) ≡ EnumOf e (id_up c)
  number_place e = go (cases_Bool (nat_eq t.row 0))
    where
      go : (nat_eq t.row 0 ≡ true) ⊎ (nat_eq t.row 0 ≡ false) → number_by (nat_eq t.row 0) e (id_of t) ≡ EnumOf e (id_up c)
      go (inl h) =
          let none : t.row ≡ 0 = eqb-true t.row 0 h in
          let some : t.row ≡ suc c.row = ap (λ (i : Id). i.row) at in
          absurd (omega (arith, none, some))
      go (inr h) = ap (λ b. number_by b e (id_of t)) h ∙ ap (EnumOf e) at

  pub enum_place : (e : Elem) → is_integer e ≡ true → base_type e t ≡ EnumOf e (id_up c)
  enum_place elem.Void h = absurd (cc h)
  enum_place elem.Bool h = absurd (cc h)
  enum_place elem.Char h = absurd (cc h)
  enum_place elem.I1 h = number_place elem.I1
  enum_place elem.U1 h = number_place elem.U1
  enum_place elem.I2 h = number_place elem.I2
  enum_place elem.U2 h = number_place elem.U2
  enum_place elem.I4 h = number_place elem.I4
  enum_place elem.U4 h = number_place elem.U4
  enum_place elem.I8 h = number_place elem.I8
  enum_place elem.U8 h = number_place elem.U8
  enum_place elem.String h = absurd (cc h)
  enum_place elem.Object h = absurd (cc h)
  enum_place elem.Class h = absurd (cc h)
  enum_place elem.Value h = absurd (cc h)

pub class_spelt : (cs : Classes) → AreSpelt cs → (c : Id) → type_spelt (type_of_class cs c) ≡ true
class_spelt cs spelt c = go (kind_of cs c) (λ q h. spelt c q h)
  where
    go : (o : Option TypeKind) → ((q : TypeKind) → o ≡ Some q → kind_spelt q ≡ true) → type_spelt (type_by_kind o c) ≡ true
    go None h = refl
    go (Some (Builtin e)) h = h (Builtin e) refl
    go (Some (Enumeration e)) h = h (Enumeration e) refl
    go (Some OtherValue) h = refl
    go (Some Reference) h = refl

-- references of a class, by what is told of the type's spelling
pub class_told : {E : Type 0} (cs : Classes) (c : Id) (t : CliType) (r : Result WorldPlace E) → t ≡ type_of_class cs c → IfOk r (λ place. type_spelt t ≡ true → type_of place ≡ type_up t) → IfOk r (λ place. AreSpelt cs → O (type_of place) ≡ stack_up (O (type_of_class cs c)))
class_told cs c t (Err e) same told = tt
class_told cs c t (Ok place) same told = λ spelt. ap O (told (ap type_spelt same ∙ class_spelt cs spelt c) ∙ ap type_up same)

module _ (n : ℕ) (cs : Classes) (r : IsRead n cs) (k : Keeps n cs) where
  named : (e : Elem) (o : Option (List ℕ)) (c : Id) → on_some o (library_class cs) ≡ Some c → is_some o ≡ true
  named e None c h = absurd (cc h)
  named e (Some name) c h = refl

  pub kinds_spelt : AreSpelt cs
  kinds_spelt c (Builtin e) h = named e (basic_name e) c (r.builtin c e h)
  kinds_spelt c Reference h = refl
  kinds_spelt c OtherValue h = refl
  kinds_spelt c (Enumeration e) h = go (cs.class c) refl h
    where
      go : (o : Option Class) → cs.class c ≡ o → option_map (λ x. x.kind) o ≡ Some (Enumeration e) → is_integer e ≡ true
      go None at h = absurd (cc h)
      go (Some x) at h =
          let is : x.kind ≡ Enumeration e = cc h in
          (and_parts (is_integer e) (is_one_of e (own_instance_fields cs c)) (ap (value_well cs c) (sym is) ∙ k.values c x at)).0
