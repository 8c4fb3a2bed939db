-- What an entry takes and gives, inside of arrays.
use Rattle.std.proofs.Common.{◌≡◌, ℕ, zero, suc, Bool, true, false, Option, Some, None, refl, sym, ap, arith}
use Rattle.std.specs.Prelude.{[], ◌∷◌, ◌&&◌, nat_eq, not, if◌then◌else◌}
use Rattle.std.proofs.lemmas.Bool.{ne_eqb}
use Rattle.plain_types.specs.declared.elem.Elem.{Elem}
use Rattle.plain_types.specs.declared.elem.Elem.TheVariants as elem
use Rattle.machine.specs.Data.{Id, Basic, type_eq}
use Rattle.machine.specs.Trace.{strings}
use Rattle.classes.specs.Classes.{Classes, SigType, Direct, ByRef, TypeKind, Reference, Builtin, Enumeration, OtherValue}
use Rattle.classes.specs.Queries.{kind_of, type_by_kind, type_of}
use Rattle.member_keys.specs.declared.keys.ElementKey.{ElementKey}
use Rattle.member_keys.specs.declared.keys.ElementKey.TheVariants as element
use Rattle.member_keys.specs.declared.keys.PlaceKey.{PlaceKey}
use Rattle.member_keys.specs.Seen.{arrays, class_seen, element_seen, place_seen, type_seen}
use Rattle.class_rules.specs.Rules.{main_takes}

module _ (cs : Classes) where
  -- a type in no array
  pub gives_inside : (n : ℕ) (s : SigType) (e : Elem) → type_eq (type_of cs (arrays n s)) (Basic e) ≡ (nat_eq n 0 && type_eq (type_of cs s) (Basic e))
  gives_inside zero s e = refl
  gives_inside (suc n) s e = ap (λ b. b && type_eq (type_of cs s) (Basic e)) (sym (ne_eqb (suc n) 0 (λ h. omega (arith, h))))

  no_array : (k : Option TypeKind) (c : Id) → type_eq (type_by_kind k c) strings ≡ false
  no_array None c = refl
  no_array (Some Reference) c = refl
  no_array (Some (Builtin e)) c = refl
  no_array (Some (Enumeration e)) c = refl
  no_array (Some OtherValue) c = refl

  alone : (x : ElementKey) → type_eq (type_of cs (element_seen x)) strings ≡ false
  alone (element.Spelt e) = refl
  alone (element.Class c) = no_array (kind_of cs (class_seen c)) (class_seen c)
  alone (element.Value c) = no_array (kind_of cs (class_seen c)) (class_seen c)

  -- a type in one array
  pub takes_inside : (n : ℕ) (x : ElementKey) → type_eq (type_of cs (arrays n (element_seen x))) strings ≡ (nat_eq n 1 && type_eq (type_of cs (element_seen x)) (Basic elem.String))
  takes_inside zero x = alone x
  takes_inside (suc zero) x = refl
  takes_inside (suc (suc n)) x = ap (λ b. b && type_eq (type_of cs (element_seen x)) (Basic elem.String)) (sym (ne_eqb (suc (suc n)) 1 (λ h. omega (arith, h))))

  by_flag : (b : Bool) (s : SigType) → main_takes cs ((if b then ByRef s else Direct s) ∷ []) ≡ (not b && type_eq (type_of cs s) strings)
  by_flag true s = refl
  by_flag false s = refl

  -- one parameter
  pub text_place : (p : PlaceKey) → main_takes cs (place_seen p ∷ []) ≡ (not p.by_ref && type_eq (type_of cs (type_seen p.of)) strings)
  text_place p = by_flag p.by_ref (type_seen p.of)
