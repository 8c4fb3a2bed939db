-- A value is loaded from each place that a signature may spell.
use Rattle.std.proofs.Common.{◌≡◌, Bool, true, false, not, List, [], ◌∷◌, ◌++◌, map, Option, Some, None, refl, ap}
use Rattle.std.specs.Prelude.{◌&&◌, ◌||◌, if◌then◌else◌, is_some, nat_eq}
use Rattle.std.specs.List.{list_all}
use Rattle.std.proofs.lemmas.Bool.{and_parts, and_from}
use Rattle.plain_types.specs.declared.elem.Elem.{Elem}
use Rattle.plain_types.specs.declared.elem.Elem.TheVariants as elem
use Rattle.machine.specs.Data.{Id, CliType, Basic, EnumOf, ClassOf, ValueOf, ArrayOf, PlaceType, Plain, Cell, Bits, Refers, cell_of, elem_cell}
use Rattle.machine_typed.specs.Typing.{loaded, of_type}
use Rattle.classes.specs.Classes.{Classes, SigType, Spelt, ClassToken, ValueToken, ArraySig, SigPlace, Direct, ByRef, Signature}
use Rattle.classes.specs.Listed.{this_before}
use Rattle.classes.specs.Queries.{basic_name, is_integer, place_of, this_by, this_of, type_of, type_of_class}
use Rattle.class_rules.specs.Rules.{is_handle, result_fits, sig_fits, sig_of_place, signature_fits}
use Rattle.class_rules.proofs.Ways.{all_at}
use Rattle.cil_types.specs.Spelt.{AreSpelt, type_spelt}
use Rattle.cil_types.proofs.SpellLaws.{class_spelt}
use Rattle.verify_ops.specs.Effects.{is_never}
use Rattle.ecma_effects.specs.Known.{AllLoaded}
use Rattle.ecma_effects.proofs.Renamed.{plain_has}

abbrev pub is_loaded : PlaceType → Bool
is_loaded k = not (is_never (loaded k))

pub all_loaded : (ks : List PlaceType) → list_all is_loaded ks ≡ true → AllLoaded ks
all_loaded ks all n k at = by (is_never (loaded k)) (all_at is_loaded ks n k all at)
  where
    by : (b : Bool) → not b ≡ true → b ≡ false
    by true e = absurd (cc e)
    by false e = refl

-- ---- types

named_cell : (e : Elem) → is_some (basic_name e) ≡ true → is_some (elem_cell e) ≡ true
named_cell elem.Void h = absurd (cc h)
named_cell elem.Bool h = refl
named_cell elem.Char h = refl
named_cell elem.I1 h = refl
named_cell elem.U1 h = refl
named_cell elem.I2 h = refl
named_cell elem.U2 h = refl
named_cell elem.I4 h = refl
named_cell elem.U4 h = refl
named_cell elem.I8 h = refl
named_cell elem.U8 h = refl
named_cell elem.String h = refl
named_cell elem.Object h = refl
named_cell elem.Class h = absurd (cc h)
named_cell elem.Value h = absurd (cc h)

integer_cell : (e : Elem) → is_integer e ≡ true → is_some (elem_cell e) ≡ true
integer_cell elem.Void h = absurd (cc h)
integer_cell elem.Bool h = refl
integer_cell elem.Char h = refl
integer_cell elem.I1 h = refl
integer_cell elem.U1 h = refl
integer_cell elem.I2 h = refl
integer_cell elem.U2 h = refl
integer_cell elem.I4 h = refl
integer_cell elem.U4 h = refl
integer_cell elem.I8 h = refl
integer_cell elem.U8 h = refl
integer_cell elem.String h = refl
integer_cell elem.Object h = refl
integer_cell elem.Class h = absurd (cc h)
integer_cell elem.Value h = absurd (cc h)

spelt_has : (x : CliType) → type_spelt x ≡ true → is_never (of_type x) ≡ false
spelt_has (Basic e) h = plain_has (Basic e) (named_cell e h)
spelt_has (EnumOf e c) h = plain_has (EnumOf e c) (integer_cell e h)
spelt_has (ClassOf c) h = refl
spelt_has (ValueOf c) h = refl
spelt_has (ArrayOf x) h = refl

module _ (cs : Classes) (spelt : AreSpelt cs) where
  class_has : (c : Id) → is_never (of_type (type_of_class cs c)) ≡ false
  class_has c = spelt_has (type_of_class cs c) (class_spelt cs spelt c)

  pub sig_has : (s : SigType) → sig_fits cs s ≡ true → is_never (of_type (type_of cs s)) ≡ false
  sig_has (Spelt e) h = plain_has (Basic e) h
  sig_has (ClassToken c) h = class_has c
  sig_has (ValueToken c) h = class_has c
  sig_has (ArraySig s) h = refl

  handle_has : (s : SigType) → is_handle cs s ≡ true → is_never (of_type (type_of cs s)) ≡ false
  handle_has (Spelt e) h = absurd (cc h)
  handle_has (ClassToken c) h = class_has c
  handle_has (ValueToken c) h = class_has c
  handle_has (ArraySig s) h = refl

  -- ---- places

  this_has : (c : Id) → is_loaded (this_of cs c) ≡ true
  this_has c = by (cell_of (type_of_class cs c))
    where
      by : (o : Option Cell) → is_loaded (this_by o (type_of_class cs c)) ≡ true
      by None = refl
      by (Some (Bits i)) = refl
      by (Some Refers) = ap not (class_has c)

  place_has : (library : Bool) (p : SigPlace) → (sig_fits cs (sig_of_place p) || (library && is_handle cs (sig_of_place p))) ≡ true → is_loaded (place_of cs p) ≡ true
  place_has library (ByRef s) h = refl
  place_has library (Direct s) h = ap not (by (sig_fits cs s) library (is_handle cs s) refl refl h)
    where
      by : (a b d : Bool) → sig_fits cs s ≡ a → is_handle cs s ≡ d → (a || (b && d)) ≡ true → is_never (of_type (type_of cs s)) ≡ false
      by true b d e f h = sig_has s e
      by false true true e f h = handle_has s f
      by false true false e f h = absurd (cc h)
      by false false d e f h = absurd (cc h)

  places_have : (library : Bool) (ps : List SigPlace) → list_all (λ p. sig_fits cs (sig_of_place p) || (library && is_handle cs (sig_of_place p))) ps ≡ true → list_all is_loaded (map (place_of cs) ps) ≡ true
  places_have library [] h = refl
  places_have library (p ∷ ps) h =
      let both = and_parts (sig_fits cs (sig_of_place p) || (library && is_handle cs (sig_of_place p))) (list_all (λ p. sig_fits cs (sig_of_place p) || (library && is_handle cs (sig_of_place p))) ps) h in
      and_from (is_loaded (place_of cs p)) (list_all is_loaded (map (place_of cs) ps)) (place_has library p both.0) (places_have library ps both.1)

  pub arguments_loaded : (c : Id) (s : Signature) → signature_fits cs c s ≡ true → AllLoaded (this_before cs c s ++ map (place_of cs) s.parameters)
  arguments_loaded c s h = all_loaded (this_before cs c s ++ map (place_of cs) s.parameters) (by s.has_this)
    where
      given : list_all is_loaded (map (place_of cs) s.parameters) ≡ true
      given = places_have (nat_eq c.file 0) s.parameters (and_parts (result_fits cs s.returns) _ h).1

      by : (b : Bool) → list_all is_loaded ((if b then this_of cs c ∷ [] else []) ++ map (place_of cs) s.parameters) ≡ true
      by true = and_from (is_loaded (this_of cs c)) (list_all is_loaded (map (place_of cs) s.parameters)) (this_has c) given
      by false = given

  pub locals_loaded : (ss : List SigType) → list_all (sig_fits cs) ss ≡ true → AllLoaded (map (λ s. Plain (type_of cs s)) ss)
  locals_loaded ss all = all_loaded (map (λ s. Plain (type_of cs s)) ss) (by ss all)
    where
      by : (ss : List SigType) → list_all (sig_fits cs) ss ≡ true → list_all is_loaded (map (λ s. Plain (type_of cs s)) ss) ≡ true
      by [] h = refl
      by (s ∷ ss) h =
          let both = and_parts (sig_fits cs s) (list_all (sig_fits cs) ss) h in
          and_from (is_loaded (Plain (type_of cs s))) (list_all is_loaded (map (λ s. Plain (type_of cs s)) ss)) (ap not (sig_has s both.0)) (by ss both.1)
