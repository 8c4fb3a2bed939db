-- How types are spelt as places.
use Rattle.std.proofs.Common.{◌≡◌, ℕ, zero, suc, Bool, cond, true, false, Option, Some, None, refl, ap}
use Rattle.std.specs.Prelude.{not}
use Rattle.ecma_types.specs.declared.stack.PlaceType.{PlaceType as WorldPlace}
use Rattle.machine.specs.Data.{Id, CliType, Basic, EnumOf, ClassOf, ValueOf, ArrayOf, Cell, Bits, Refers, cell_of}
use Rattle.machine_typed.specs.Typing.{is_refers}
use Rattle.place_types.specs.Types.{place_back, type_up}
use Rattle.classes.specs.Classes.{Classes, SigType, Direct, ByRef, TypeKind, Reference, Builtin, Enumeration, OtherValue}
use Rattle.classes.specs.Queries.{kind_of, type_by_kind, this_by, this_of, type_of, type_of_class, place_of}
use Rattle.class_rules.specs.Facts.{is_reference_class}
use Rattle.member_keys.specs.declared.keys.TypeKey.{TypeKey}
use Rattle.member_keys.specs.declared.keys.PlaceKey.{PlaceKey}
use Rattle.member_keys.specs.declared.keys.ElementKey.{ElementKey}
use Rattle.member_keys.specs.declared.keys.ElementKey.TheVariants as element
use Rattle.member_keys.specs.Seen.{arrays, class_seen, element_seen, place_seen, type_seen}
use Rattle.method_facts.specs.Places.{place_to, type_to}

single_by : (o : Option TypeKind) (c : Id) → (type_to (type_by_kind o c)).ranks ≡ 0
single_by None c = refl
single_by (Some Reference) c = refl
single_by (Some (Builtin e)) c = refl
single_by (Some (Enumeration e)) c = refl
single_by (Some OtherValue) c = refl

no_pointer : (x : CliType) → (place_back x).pointer ≡ false
no_pointer (Basic e) = refl
no_pointer (EnumOf e c) = refl
no_pointer (ClassOf c) = refl
no_pointer (ValueOf c) = refl
no_pointer (ArrayOf x) = no_pointer x

plain_place : (x : CliType) → type_to x ≡ record (type_to x) { pointer = false }
plain_place x = ap (λ b. record (type_to x) { pointer = b }) (no_pointer (type_up x))

this_by_cell : (k : Option Cell) (x : CliType) → place_to (this_by k x) ≡ record (type_to x) { pointer = not (is_refers k) }
this_by_cell None x = refl
this_by_cell (Some (Bits n)) x = refl
this_by_cell (Some Refers) x = plain_place x

module _ (cs : Classes) where
  place_by_ref : (b : Bool) (s : SigType) → place_to (place_of cs (cond b (ByRef s) (Direct s))) ≡ record (type_to (type_of cs s)) { pointer = b }
  place_by_ref true s = refl
  place_by_ref false s = plain_place (type_of cs s)

  bracketed : (n : ℕ) (s : SigType) → (type_to (type_of cs s)).ranks ≡ 0 → type_to (type_of cs (arrays n s)) ≡ record (type_to (type_of cs s)) { ranks = n }
  bracketed zero s e = ap (λ r. record (type_to (type_of cs s)) { ranks = r }) e
  bracketed (suc n) s e = ap (λ (t : WorldPlace). record t { ranks = suc t.ranks }) (bracketed n s e)

  pub in_brackets : (key : TypeKey) → type_to (type_of cs (type_seen key)) ≡ record (type_to (type_of cs (element_seen key.element))) { ranks = key.ranks }
  in_brackets key = bracketed key.ranks (element_seen key.element) (single key.element)
    where
      single : (e : ElementKey) → (type_to (type_of cs (element_seen e))).ranks ≡ 0
      single (element.Spelt e) = refl
      single (element.Class c) = single_by (kind_of cs (class_seen c)) (class_seen c)
      single (element.Value c) = single_by (kind_of cs (class_seen c)) (class_seen c)

  pub pointed : (key : PlaceKey) → place_to (place_of cs (place_seen key)) ≡ record (type_to (type_of cs (type_seen key.of))) { pointer = key.by_ref }
  pointed key = place_by_ref key.by_ref (type_seen key.of)

  pub this_place : (c : Id) → place_to (this_of cs c) ≡ record (type_to (type_of_class cs c)) { pointer = not (is_reference_class cs c) }
  this_place c = this_by_cell (cell_of (type_of_class cs c)) (type_of_class cs c)
