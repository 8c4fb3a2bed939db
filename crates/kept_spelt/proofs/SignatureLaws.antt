-- The signatures of files have a spelling in an image (II.23.2).
use Rattle.std.proofs.Common.{◌≡◌, ◌∙◌, ⊎_elim, ℕ, zero, suc, ◌+◌, Bool, true, false, List, [], ◌∷◌, map, Option, Some, None, Ok, Err, refl, sym, ap, subst, arith}
use Rattle.std.specs.Prelude.{◌==◌, if◌then◌else◌, slice_index_or, MatchBool}
use Rattle.std.specs.List.{list_all}
use Rattle.std.proofs.lemmas.Bool.{and_parts, le-ltb}
use Rattle.plain_types.specs.declared.elem.Elem.{Elem}
use Rattle.plain_types.specs.declared.elem.Elem.TheVariants as elem
use Rattle.file_tables.specs.Metadata.{MetadataPart, column_of}
use Rattle.cil_sig.specs.declared.elements.TheConstants.{ELEMENTS}
use Rattle.cil_sig.specs.declared.sig.SigType.{SigType}
use Rattle.cil_sig.specs.declared.sig.MethodSig.{MethodSig}
use Rattle.cil_sig.specs.Elements.{element_of}
use Rattle.cil_sig.specs.Reading.{Part, whole_field, whole_spec, whole_locals, whole_method}
use Rattle.cil_sig.specs.Spelling.{IsElement, IsType, IsPointer, IsParameter, IsVoid, IsResult, AreSpelled}
use Rattle.cil_sig.proofs.Wholes.{field_takes, spec_takes, locals_take, method_takes}
use Rattle.assemblies.specs.Rows.{RawType, RawByRef, RawDirect}
use Rattle.assemblies.specs.Closed.{Each}
use Rattle.image_form.specs.Signatures.{depth}
use Rattle.kept_closure.specs.Named.{InOption}
use Rattle.chosen_image.specs.Spells.{InElems, TypeSpells, PlaceSpells, SignatureSpells}
use Rattle.world_rows.specs.Tokens.{number_of, locals_signatures, bytes_at}
use Rattle.world_rows.specs.Signatures.{raw_element, in_brackets, raw_type, raw_place, is_void, raw_result, faulty_type, type_from, signature_from, locals_from, field_signature, method_signature, spec_signature, locals_signature}
use Rattle.world_rows.specs.Lines.{locals_of}

-- ---- each element of the table of codes stands in types

abbrev stands : Elem → Bool
stands elem.Void = false
stands _ = true

abbrev code_stands : Option Elem → Bool
code_stands None = true
code_stands (Some e) = stands e

all_stand : list_all code_stands ELEMENTS ≡ true
all_stand = refl

one_stands : (xs : List (Option Elem)) (k : ℕ) → list_all code_stands xs ≡ true → code_stands (slice_index_or xs k None) ≡ true
one_stands [] k h = refl
one_stands (x ∷ xs) zero h = (and_parts (code_stands x) (list_all code_stands xs) h).0
one_stands (x ∷ xs) (suc k) h = one_stands xs k (and_parts (code_stands x) (list_all code_stands xs) h).1

element_stands : (code : ℕ) (e : Elem) → element_of code ≡ Some e → stands e ≡ true
unfolding element_of
element_stands code e h = sym (ap code_stands h) ∙ one_stands ELEMENTS code all_stand

named_stands : (element : List ℕ) (e : Elem) (token : ℕ) → IsElement element e token → stands e ≡ true
named_stands [] e token h = absurd h
named_stands (code ∷ name) e token h = element_stands code e h.0

module _ (m : MetadataPart) where
  element_spells : (e : Elem) (token : ℕ) → stands e ≡ true → InElems (raw_element m e token)
  element_spells elem.Void token h = absurd (cc h)
  element_spells elem.Bool token h = refl
  element_spells elem.Char token h = refl
  element_spells elem.I1 token h = refl
  element_spells elem.U1 token h = refl
  element_spells elem.I2 token h = refl
  element_spells elem.U2 token h = refl
  element_spells elem.I4 token h = refl
  element_spells elem.U4 token h = refl
  element_spells elem.I8 token h = refl
  element_spells elem.U8 token h = refl
  element_spells elem.String token h = refl
  element_spells elem.Value token h = tt
  element_spells elem.Class token h = tt
  element_spells elem.Object token h = refl

  no_depth : (e : Elem) (token : ℕ) → depth (raw_element m e token) ≡ 0
  no_depth elem.Class token = refl
  no_depth elem.Value token = refl
  no_depth _ token = refl

deep : (n : ℕ) (s : RawType) → depth (in_brackets n s) ≡ n + depth s
deep zero s = omega arith
deep (suc n) s = omega (arith, deep n s)

inner : (n : ℕ) (s : RawType) → InElems s → InElems (in_brackets n s)
inner zero s h = h
inner (suc n) s h = inner n s h

-- ---- types, places and results

module _ (m : MetadataPart) where
  faulty_spells : TypeSpells (faulty_type m)
  faulty_spells = record { shallow = refl; elements = tt }

  type_spells : (bytes : List ℕ) (t : SigType) → IsType bytes t → TypeSpells (raw_type m t)
  type_spells bytes t h =
      let all = deep t.ranks (raw_element m t.elem t.token) in
      let none = no_depth m t.elem t.token in
      let few = h.few in
      record {
        shallow = le-ltb 255 (depth (raw_type m t)) (omega (arith, all, none, few));
        elements = inner t.ranks (raw_element m t.elem t.token) (element_spells m t.elem t.token (named_stands h.element t.elem t.token h.is_element));
      }

  place_spells : (bytes : List ℕ) (t : SigType) → IsParameter bytes t → PlaceSpells (raw_place m t)
  place_spells bytes t h = by t.pointer h
    where
      by : (b : Bool) → MatchBool b (IsPointer bytes t) (IsType bytes t) → PlaceSpells (if b then RawByRef (raw_type m t) else RawDirect (raw_type m t))
      by true p = type_spells p.of (record t { pointer = false }) p.is_type
      by false p = type_spells bytes t p

  result_spells : (bytes : List ℕ) (t : SigType) → IsResult bytes t → InOption TypeSpells (raw_result m t)
  result_spells bytes t h =
      ⊎_elim
      (λ (v : IsVoid bytes t). subst (λ (s : SigType). InOption TypeSpells (raw_result m s)) (sym v.1) tt)
      (λ (y : IsType bytes t). typed (is_void t.elem) (type_spells bytes t y))
      h
    where
      typed : (b : Bool) → TypeSpells (raw_type m t) → InOption TypeSpells (if b then None else Some (raw_type m t))
      typed true h = tt
      typed false h = h

  places_spell : (bytes : List ℕ) (ts : List SigType) → AreSpelled IsParameter bytes ts → Each PlaceSpells (map (raw_place m) ts)
  places_spell bytes [] h = tt
  places_spell bytes (t ∷ ts) h = (place_spells h.0 t h.3, places_spell h.1 ts h.4)

  types_spell : (bytes : List ℕ) (ts : List SigType) → AreSpelled IsType bytes ts → Each TypeSpells (map (raw_type m) ts)
  types_spell bytes [] h = tt
  types_spell bytes (t ∷ ts) h = (type_spells h.0 t h.3, types_spell h.1 ts h.4)

  -- ---- whole signatures

  pub field_spells : (blob : List ℕ) → TypeSpells (field_signature m blob)
  unfolding field_signature
  field_spells blob = by (whole_field blob) refl
    where
      by : (r : Part SigType) → whole_field blob ≡ r → TypeSpells (type_from m r)
      by (Ok s) e = let h = field_takes blob s e in type_spells h.0 s h.2
      by (Err left) e = faulty_spells

  pub spec_spells : (blob : List ℕ) → TypeSpells (spec_signature m blob)
  unfolding spec_signature
  spec_spells blob = by (whole_spec blob) refl
    where
      by : (r : Part SigType) → whole_spec blob ≡ r → TypeSpells (type_from m r)
      by (Ok s) e = type_spells blob s (spec_takes blob s e).0
      by (Err left) e = faulty_spells

  pub method_spells : (blob : List ℕ) → SignatureSpells (method_signature m blob)
  unfolding method_signature
  method_spells blob = by (whole_method blob) refl
    where
      by : (r : Part MethodSig) → whole_method blob ≡ r → SignatureSpells (signature_from m r)
      by (Ok s) e =
          let h = method_takes blob s e in
          record { returns = result_spells h.returns s.returns h.result; parameters = places_spell h.params s.params h.spelled }
      by (Err left) e = record { returns = faulty_spells; parameters = tt }

  pub locals_spell : (blob : List ℕ) → Each TypeSpells (locals_signature m blob)
  unfolding locals_signature
  locals_spell blob = by (whole_locals blob) refl
    where
      by : (r : Part (List SigType)) → whole_locals blob ≡ r → Each TypeSpells (locals_from m r)
      by (Ok ss) e = let h = locals_take blob ss e in types_spell h.types ss h.spelled
      by (Err left) e = tt

  pub body_locals_spell : (token : ℕ) → Each TypeSpells (locals_of m token)
  body_locals_spell token = by (token == 0)
    where
      by : (c : Bool) → Each TypeSpells (if c then [] else locals_signature m (bytes_at m (column_of m locals_signatures (number_of token) 0)))
      by true = tt
      by false = locals_spell _
