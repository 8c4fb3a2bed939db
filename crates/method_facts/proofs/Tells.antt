-- What is spelt tells the types.
use Rattle.std.proofs.Common.{◌≡◌, ℕ, suc, Bool, true, false, not, List, [], ◌∷◌, ◌++◌, map, Option, Some, None, refl, sym, ap, ◌∙◌, arith}
use Rattle.std.specs.Prelude.{◌&&◌, ◌||◌, if◌then◌else◌, cond, is_some, nat_eq}
use Rattle.std.specs.List.{list_all}
use Rattle.std.specs.Option.{option_map}
use Rattle.std.proofs.lemmas.Bool.{and_parts, ne_eqb}
use Rattle.plain_types.specs.declared.elem.Elem.{Elem}
use Rattle.plain_types.specs.declared.elem.Elem.TheVariants as elem
use Rattle.ecma_types.specs.declared.stack.PlaceType.{PlaceType as WorldPlace}
use Rattle.machine.specs.Data.{Id, CliType, Basic, EnumOf, ClassOf, ValueOf, ArrayOf, PlaceType, Plain, To, Cell, Bits, Refers, cell_of, elem_cell}
use Rattle.place_types.specs.Types.{id_up, number_by, place_by, place_of, place_up, type_of, type_up}
use Rattle.classes.specs.Classes.{Classes, SigType, Spelt, ClassToken, ValueToken, ArraySig, SigPlace, Direct, ByRef, Signature, OwnField, TypeKind, Reference, Builtin, Enumeration, OtherValue}
use Rattle.classes.specs.Queries.{array, basic_name, is_integer, kind_of, this_by, this_of, type_by_kind, type_of_class}
use Rattle.classes.specs.Queries.{place_of as place_in}
use Rattle.classes.specs.Queries.{type_of as type_in}
use Rattle.class_rules.specs.Rules.{data_sig_fits, field_signature_fits, holds_some, is_data_kind, is_handle, method_signature_fits, result_fits, sig_fits, sig_of_place, signature_fits}
use Rattle.cil_types.specs.Spelt.{AreSpelt, kind_spelt, type_spelt}
use Rattle.verify_ops.specs.declared.facts.FieldOperand.{FieldOperand}
use Rattle.verify_ops.specs.declared.facts.MethodOperand.{MethodOperand}
use Rattle.verify_ops.specs.Facts.{is_void, is_void_elem, result_of}
use Rattle.ecma_effects.specs.Known.{IsClass}
use Rattle.ecma_effects.specs.Told.{TellsField, TellsMethod}
use Rattle.method_facts.specs.Places.{class_to, place_to, result_to, type_to}
use Rattle.classes.specs.Listed.{this_before}
use Rattle.method_facts.specs.Spelt.{place_spelt, result_spelt}
use Rattle.method_facts.specs.Members.{IsField, IsMethod}

elem_spelt : (e : Elem) → is_some (elem_cell e) ≡ true → is_some (basic_name e) ≡ true
elem_spelt elem.Void h = absurd (cc h)
elem_spelt elem.Bool h = refl
elem_spelt elem.Char h = refl
elem_spelt elem.I1 h = refl
elem_spelt elem.U1 h = refl
elem_spelt elem.I2 h = refl
elem_spelt elem.U2 h = refl
elem_spelt elem.I4 h = refl
elem_spelt elem.U4 h = refl
elem_spelt elem.I8 h = refl
elem_spelt elem.U8 h = refl
elem_spelt elem.String h = refl
elem_spelt elem.Object h = refl
elem_spelt elem.Class h = absurd (cc h)
elem_spelt elem.Value h = absurd (cc h)

basic_up : (e : Elem) → is_some (basic_name e) ≡ true → type_of (type_to (Basic e)) ≡ Basic e
basic_up elem.Void h = absurd (cc h)
basic_up elem.Bool h = refl
basic_up elem.Char h = refl
basic_up elem.I1 h = refl
basic_up elem.U1 h = refl
basic_up elem.I2 h = refl
basic_up elem.U2 h = refl
basic_up elem.I4 h = refl
basic_up elem.U4 h = refl
basic_up elem.I8 h = refl
basic_up elem.U8 h = refl
basic_up elem.String h = refl
basic_up elem.Object h = refl
basic_up elem.Class h = absurd (cc h)
basic_up elem.Value h = absurd (cc h)

not_zero : (n : ℕ) → nat_eq (suc n) 0 ≡ false
not_zero n = ne_eqb (suc n) 0 (λ e. omega (arith, e))

number_up : (e : Elem) (c : Id) → number_by (nat_eq (suc c.row) 0) e (id_up c) ≡ EnumOf e (id_up c)
number_up e c = ap (λ b. number_by b e (id_up c)) (not_zero c.row)

enum_up : (e : Elem) (c : Id) → is_integer e ≡ true → type_of (type_to (EnumOf e c)) ≡ EnumOf e (id_up c)
enum_up elem.Void c h = absurd (cc h)
enum_up elem.Bool c h = absurd (cc h)
enum_up elem.Char c h = absurd (cc h)
enum_up elem.I1 c h = number_up elem.I1 c
enum_up elem.U1 c h = number_up elem.U1 c
enum_up elem.I2 c h = number_up elem.I2 c
enum_up elem.U2 c h = number_up elem.U2 c
enum_up elem.I4 c h = number_up elem.I4 c
enum_up elem.U4 c h = number_up elem.U4 c
enum_up elem.I8 c h = number_up elem.I8 c
enum_up elem.U8 c h = number_up elem.U8 c
enum_up elem.String c h = absurd (cc h)
enum_up elem.Object c h = absurd (cc h)
enum_up elem.Class c h = absurd (cc h)
enum_up elem.Value c h = absurd (cc h)

pub type_told : (x : CliType) → type_spelt x ≡ true → type_of (type_to x) ≡ type_up x
type_told (Basic e) h = basic_up e h
type_told (EnumOf e c) h = enum_up e c h
type_told (ClassOf c) h = refl
type_told (ValueOf c) h = refl
type_told (ArrayOf x) h = ap ArrayOf (type_told x h)

no_pointer : (x : CliType) → (type_to x).pointer ≡ false
no_pointer (Basic e) = refl
no_pointer (EnumOf e c) = refl
no_pointer (ClassOf c) = refl
no_pointer (ValueOf c) = refl
no_pointer (ArrayOf x) = no_pointer x

plain_told : (x : CliType) → type_spelt x ≡ true → place_of (type_to x) ≡ Plain (type_up x)
plain_told x h = ap (λ b. place_by b (type_of (type_to x))) (no_pointer x) ∙ ap Plain (type_told x h)

pub place_told : (p : PlaceType) → place_spelt p ≡ true → place_of (place_to p) ≡ place_up p
place_told (Plain x) h = plain_told x h
place_told (To x) h = ap To (type_told x h)

-- ---- results

basic_value : (e : Elem) → is_some (basic_name e) ≡ true → is_void (type_to (Basic e)) ≡ false
basic_value elem.Void h = absurd (cc h)
basic_value elem.Bool h = refl
basic_value elem.Char h = refl
basic_value elem.I1 h = refl
basic_value elem.U1 h = refl
basic_value elem.I2 h = refl
basic_value elem.U2 h = refl
basic_value elem.I4 h = refl
basic_value elem.U4 h = refl
basic_value elem.I8 h = refl
basic_value elem.U8 h = refl
basic_value elem.String h = refl
basic_value elem.Object h = refl
basic_value elem.Class h = refl
basic_value elem.Value h = refl

enum_value : (e : Elem) (c : Id) → is_integer e ≡ true → is_void (type_to (EnumOf e c)) ≡ false
enum_value elem.Void c h = absurd (cc h)
enum_value elem.Bool c h = refl
enum_value elem.Char c h = refl
enum_value elem.I1 c h = refl
enum_value elem.U1 c h = refl
enum_value elem.I2 c h = refl
enum_value elem.U2 c h = refl
enum_value elem.I4 c h = refl
enum_value elem.U4 c h = refl
enum_value elem.I8 c h = refl
enum_value elem.U8 c h = refl
enum_value elem.String c h = refl
enum_value elem.Object c h = refl
enum_value elem.Class c h = refl
enum_value elem.Value c h = refl

and_false : (b : Bool) → (not b && false) ≡ false
and_false true = refl
and_false false = refl

value_told : (x : CliType) → type_spelt x ≡ true → is_void (type_to x) ≡ false
value_told (Basic e) h = basic_value e h
value_told (EnumOf e c) h = enum_value e c h
value_told (ClassOf c) h = refl
value_told (ValueOf c) h = refl
value_told (ArrayOf x) h = ap (λ b. not (type_to x).pointer && (b && is_void_elem (type_to x).elem)) (not_zero (type_to x).ranks) ∙ and_false (type_to x).pointer

some_told : (x : CliType) → type_spelt x ≡ true → result_of (type_to x) ≡ Some (Plain (type_up x))
some_told x h = ap (λ b. cond b None (Some (place_of (type_to x)))) (value_told x h) ∙ ap Some (plain_told x h)

module _ (cs : Classes) where
  result_by : (o : Option SigType) → result_spelt (option_map (type_in cs) o) ≡ true → result_of (result_to (option_map (type_in cs) o)) ≡ option_map place_up (option_map (λ s. Plain (type_in cs s)) o)
  result_by None h = refl
  result_by (Some s) h = some_told (type_in cs s) h

  params_by : (ps : List SigPlace) → list_all (λ p. place_spelt (place_in cs p)) ps ≡ true → map place_of (map place_to (map (place_in cs) ps)) ≡ map place_up (map (place_in cs) ps)
  params_by [] h = refl
  params_by (p ∷ ps) h =
      let both = and_parts (place_spelt (place_in cs p)) (list_all (λ p. place_spelt (place_in cs p)) ps) h in
      let first = place_told (place_in cs p) both.0 in
      let rest = params_by ps both.1 in
      ap (λ x. x ∷ map place_of (map place_to (map (place_in cs) ps))) first ∙ ap (λ xs. place_up (place_in cs p) ∷ xs) rest

  pub class_told : (c : Id) (t : WorldPlace) → t ≡ class_to cs c → IsClass cs c t
  class_told c t e = record { single = ap (λ (t : WorldPlace). t.ranks) e; element = ap (λ (t : WorldPlace). t.elem) e; row = ap (λ (t : WorldPlace). record { file = t.of.file; row = t.of.row }) e }

  module _ (spelt : AreSpelt cs) where
    class_spelt : (c : Id) → type_spelt (type_of_class cs c) ≡ true
    class_spelt c = go (kind_of cs c) (λ q h. spelt c q h)
      where
        go : (o : Option TypeKind) → ((q : TypeKind) → o ≡ Some q → kind_spelt q ≡ true) → type_spelt (type_by_kind o c) ≡ true
        go None h = refl
        go (Some (Builtin e)) h = h (Builtin e) refl
        go (Some (Enumeration e)) h = h (Enumeration e) refl
        go (Some OtherValue) h = refl
        go (Some Reference) h = refl

    fits_spelt : (s : SigType) → sig_fits cs s ≡ true → type_spelt (type_in cs s) ≡ true
    fits_spelt (Spelt e) h = elem_spelt e h
    fits_spelt (ClassToken c) h = class_spelt c
    fits_spelt (ValueToken c) h = class_spelt c
    fits_spelt (ArraySig s) h = fits_spelt s h

    data_spelt : (s : SigType) → data_sig_fits cs s ≡ true → type_spelt (type_in cs s) ≡ true
    data_spelt (Spelt e) h = elem_spelt e h
    data_spelt (ClassToken c) h = class_spelt c
    data_spelt (ValueToken c) h = class_spelt c
    data_spelt (ArraySig s) h = data_spelt s h

    handle_spelt : (s : SigType) → is_handle cs s ≡ true → type_spelt (type_in cs s) ≡ true
    handle_spelt (Spelt e) h = absurd (cc h)
    handle_spelt (ClassToken c) h = class_spelt c
    handle_spelt (ValueToken c) h = class_spelt c
    handle_spelt (ArraySig s) h = handle_spelt s h

    field_spelt : (k : Bool) (s : SigType) → cond k (data_sig_fits cs s) (sig_fits cs s) ≡ true → type_spelt (type_in cs s) ≡ true
    field_spelt true s h = data_spelt s h
    field_spelt false s h = fits_spelt s h

    own_spelt : (own : OwnField) (s : SigType) → own.signature ≡ Some s → field_signature_fits cs own ≡ true → type_spelt (type_in cs s) ≡ true
    own_spelt own s e h =
        field_spelt (is_data_kind own.kind) s (sym (ap (λ o. holds_some o (λ s. if is_data_kind own.kind then data_sig_fits cs s else sig_fits cs s)) e) ∙ h)

    of_place : (p : SigPlace) → type_spelt (type_in cs (sig_of_place p)) ≡ true → place_spelt (place_in cs p) ≡ true
    of_place (Direct s) h = h
    of_place (ByRef s) h = h

    place_spelt_by : (p : SigPlace) (a b d : Bool) → sig_fits cs (sig_of_place p) ≡ a → is_handle cs (sig_of_place p) ≡ b → (a || (d && b)) ≡ true → place_spelt (place_in cs p) ≡ true
    place_spelt_by p true b d e f h = of_place p (fits_spelt (sig_of_place p) e)
    place_spelt_by p false true d e f h = of_place p (handle_spelt (sig_of_place p) f)
    place_spelt_by p false false true e f h = absurd (cc h)
    place_spelt_by p false false false e f h = absurd (cc h)

    params_spelt : (d : Bool) (ps : List SigPlace) → list_all (λ p. sig_fits cs (sig_of_place p) || (d && is_handle cs (sig_of_place p))) ps ≡ true → list_all (λ p. place_spelt (place_in cs p)) ps ≡ true
    params_spelt d [] h = refl
    params_spelt d (p ∷ ps) h =
        let both = and_parts (sig_fits cs (sig_of_place p) || (d && is_handle cs (sig_of_place p))) (list_all (λ p. sig_fits cs (sig_of_place p) || (d && is_handle cs (sig_of_place p))) ps) h in
        let first = place_spelt_by p (sig_fits cs (sig_of_place p)) (is_handle cs (sig_of_place p)) d refl refl both.0 in
        ap (λ b. b && list_all (λ p. place_spelt (place_in cs p)) ps) first ∙ params_spelt d ps both.1

    returns_spelt : (o : Option SigType) → result_fits cs o ≡ true → result_spelt (option_map (type_in cs) o) ≡ true
    returns_spelt None h = refl
    returns_spelt (Some s) h = fits_spelt s h

    parts_spelt : (c : Id) (s : Signature) → signature_fits cs c s ≡ true → (result_spelt (option_map (type_in cs) s.returns) ≡ true) × (list_all (λ p. place_spelt (place_in cs p)) s.parameters ≡ true)
    parts_spelt c s h =
        let both = and_parts (result_fits cs s.returns) (list_all (λ p. sig_fits cs (sig_of_place p) || (nat_eq c.file 0 && is_handle cs (sig_of_place p))) s.parameters) h in
        (returns_spelt s.returns both.0, params_spelt (nat_eq c.file 0) s.parameters both.1)

    pub field_told : (id : Id) (f : FieldOperand) (t : IsField cs id f) → field_signature_fits cs t.own ≡ true → TellsField cs id f
    field_told id f t h =
        record {
          owner = t.owner;
          own = t.own;
          signature = t.signature;
          owner_is = t.owner_is;
          own_is = t.own_is;
          signed = t.signed;
          class = class_told t.owner f.class t.class;
          type = ap type_of t.type ∙ type_told (type_in cs t.signature) (own_spelt t.own t.signature t.signed h);
          kind = t.kind;
        }

    pub method_told : (id : Id) (m : MethodOperand) (t : IsMethod cs (array cs) id m) → method_signature_fits cs t.owner t.own ≡ true → TellsMethod cs id m
    method_told id m t h =
        record {
          owner = t.owner;
          class = t.class_flags.class;
          own = t.own;
          signature = t.signature;
          owner_is = t.owner_is;
          class_is = t.class_flags.class_is;
          own_is = t.own_is;
          signed = t.signed;
          place = class_told t.owner m.class t.class;
          unmade = t.class_flags.unmade;
          interface = t.class_flags.interface;
          constructor = t.constructor;
          this = t.this;
          params = ap (map place_of) t.params ∙ params_by t.signature.parameters both.1;
          returns = ap result_of t.returns ∙ result_by t.signature.returns both.0;
          static = t.static;
          abstract = t.abstract;
        }
      where
        both : (result_spelt (option_map (type_in cs) t.signature.returns) ≡ true) × (list_all (λ p. place_spelt (place_in cs p)) t.signature.parameters ≡ true)
        both = parts_spelt t.owner t.signature (sym (ap (λ o. holds_some o (signature_fits cs t.owner)) t.signed) ∙ h)

    this_spelt : (c : Id) → place_spelt (this_of cs c) ≡ true
    this_spelt c = by (cell_of (type_of_class cs c))
      where
        by : (k : Option Cell) → place_spelt (this_by k (type_of_class cs c)) ≡ true
        by None = class_spelt c
        by (Some (Bits n)) = class_spelt c
        by (Some Refers) = class_spelt c

    arguments_told : (b : Bool) (c : Id) (ps : List SigPlace) → list_all (λ p. place_spelt (place_in cs p)) ps ≡ true → map place_of (map place_to (cond b (this_of cs c ∷ []) [] ++ map (place_in cs) ps)) ≡ map place_up (cond b (this_of cs c ∷ []) [] ++ map (place_in cs) ps)
    arguments_told false c ps h = params_by ps h
    arguments_told true c ps h =
        ap (λ x. x ∷ map place_of (map place_to (map (place_in cs) ps))) (place_told (this_of cs c) (this_spelt c)) ∙ ap (λ xs. place_up (this_of cs c) ∷ xs) (params_by ps h)

    pub arguments_up : (c : Id) (s : Signature) (places : List WorldPlace) → places ≡ map place_to (this_before cs c s ++ map (place_in cs) s.parameters) → signature_fits cs c s ≡ true → map place_of places ≡ map place_up (this_before cs c s ++ map (place_in cs) s.parameters)
    arguments_up c s places e h = ap (map place_of) e ∙ arguments_told s.has_this c s.parameters (parts_spelt c s h).1

    pub result_up : (c : Id) (s : Signature) (place : WorldPlace) → place ≡ result_to (option_map (type_in cs) s.returns) → signature_fits cs c s ≡ true → result_of place ≡ option_map place_up (option_map (λ r. Plain (type_in cs r)) s.returns)
    result_up c s place e h = ap result_of e ∙ result_by s.returns (parts_spelt c s h).0
