-- A type that a token of code names is spelt, in at most 255 brackets.
use Rattle.std.proofs.Common.{◌≡◌, ℕ, zero, suc, ◌≤◌, Bool, true, false, List, [], ◌∷◌, Option, Some, None, Ok, Err, refl, sym, ap, ◌∙◌, subst, arith}
use Rattle.std.specs.Prelude.{slice_get, slice_index, slice_index_or}
use Rattle.std.specs.List.{list_all}
use Rattle.std.proofs.lemmas.Bool.{and_parts, lt-ltb}
use Rattle.std.proofs.lemmas.Option.{slice_get-map}
use Rattle.plain_types.specs.declared.elem.Elem.{Elem}
use Rattle.plain_types.specs.declared.elem.Elem.TheVariants as elem
use Rattle.cil_sig.specs.declared.elements.TheConstants.{ELEMENTS}
use Rattle.cil_sig.specs.declared.sig.SigType.{SigType as Spelling}
use Rattle.cil_sig.specs.Elements.{element_of}
use Rattle.cil_sig.specs.Reading.{Part, whole_spec}
use Rattle.cil_sig.specs.Spelling.{IsElement}
use Rattle.cil_sig.proofs.Wholes.{spec_takes}
use Rattle.file_tables.specs.Metadata.{MetadataPart, rows_of}
use Rattle.file_tables.specs.File.{FilePart}
use Rattle.machine.specs.Data.{Id}
use Rattle.machine.specs.Throw.{on_some}
use Rattle.classes.specs.Classes.{Classes, SigType, Spelt, ClassToken, ValueToken, ArraySig, TypeKind, Reference, Builtin, Enumeration, OtherValue}
use Rattle.classes.specs.Queries.{kind_of, type_by_kind}
use Rattle.classes.specs.Queries.{type_of as type_in}
use Rattle.cil_types.specs.Spelt.{AreSpelt, kind_spelt, type_spelt}
use Rattle.place_types.specs.Held.{has_arrays}
use Rattle.assemblies.specs.Rows.{Assembly, RawType, TypeToken, TypeDef, TypeRef, TypeSpec}
use Rattle.assemblies.specs.Binding.{expanded, operand_type, resolve}
use Rattle.assemblies.proofs.Belong.{some_map}
use Rattle.assemblies.proofs.Binds.{on_some_back}
use Rattle.world_rows.specs.Tokens.{bytes_at, coded_type, type_specs}
use Rattle.world_rows.specs.Signatures.{in_brackets, raw_element, spec_signature, type_from}
use Rattle.world_rows.specs.World.{assemblies_of, ecma_sources}
use Rattle.world_rows.proofs.Alone.{faulty_law}
use Rattle.file_tables.specs.declared.schema.Coded.TheVariants.{TypeDefOrRef}
use Rattle.member_reading.specs.Meant.{scopes}
use Rattle.method_facts.specs.Places.{type_to}
use Rattle.operand_facts.proofs.TokenLaws.{assembly_at}

-- ---- no code of an element is that of void

abbrev is_value : Option Elem → Bool
is_value (Some elem.Void) = false
is_value _ = true

each_value : (es : List (Option Elem)) (code : ℕ) → list_all is_value es ≡ true → is_value (slice_index_or es code None) ≡ true
each_value [] code h = refl
each_value (e ∷ es) zero h = (and_parts (is_value e) (list_all is_value es) h).0
each_value (e ∷ es) (suc code) h = each_value es code (and_parts (is_value e) (list_all is_value es) h).1

element_value : (bytes : List ℕ) (e : Elem) (token : ℕ) → IsElement bytes e token → is_value (Some e) ≡ true
unfolding element_of
element_value [] e token is = absurd is
element_value (code ∷ name) e token is = subst (λ o. is_value o ≡ true) is.0 (each_value ELEMENTS code refl)

-- ---- types

module _ (files : List FilePart) (spelt : AreSpelt (ecma_sources files).classes) where
  abbrev cs : Classes
  cs = (ecma_sources files).classes

  abbrev k : ℕ
  k = scopes files

  abbrev ps : List Assembly
  ps = assemblies_of files

  -- in at most so many brackets
  abbrev Within : ℕ → SigType → Type 0
  Within n s = (type_spelt (type_in cs s) ≡ true) × ((type_to (type_in cs s)).ranks ≤ n)

  class_within : (c : Id) → Within 0 (ClassToken c)
  class_within c = by (kind_of cs c) (λ q h. spelt c q h)
    where
      by : (o : Option TypeKind) → ((q : TypeKind) → o ≡ Some q → kind_spelt q ≡ true) → (type_spelt (type_by_kind o c) ≡ true) × ((type_to (type_by_kind o c)).ranks ≤ 0)
      by None h = (refl, omega arith)
      by (Some (Builtin e)) h = (h (Builtin e) refl, omega arith)
      by (Some (Enumeration e)) h = (h (Enumeration e) refl, omega arith)
      by (Some OtherValue) h = (refl, omega arith)
      by (Some Reference) h = (refl, omega arith)

  module _ (file : ℕ) where
    element_within : (m : MetadataPart) (e : Elem) (token : ℕ) (s : SigType) → is_value (Some e) ≡ true → expanded k ps file (raw_element m e token) ≡ Some s → Within 0 s
    element_within m elem.Class token s h g = let w = some_map ClassToken (resolve k ps file (coded_type m TypeDefOrRef token)) s g in subst (Within 0) w.2 (class_within w.0)
    element_within m elem.Value token s h g = let w = some_map ValueToken (resolve k ps file (coded_type m TypeDefOrRef token)) s g in subst (Within 0) w.2 (class_within w.0)
    element_within m elem.Void token s h g = absurd (cc h)
    element_within m e token s h g = let same : Spelt e ≡ s = cc g in subst (Within 0) same (refl, omega arith)

    brackets_within : (n : ℕ) (r : RawType) (s : SigType) → ((t : SigType) → expanded k ps file r ≡ Some t → Within 0 t) → expanded k ps file (in_brackets n r) ≡ Some s → Within n s
    brackets_within zero r s h e = h s e
    brackets_within (suc n) r s h e =
        let w = some_map ArraySig (expanded k ps file (in_brackets n r)) s e in
        let t = brackets_within n r w.0 h w.1 in
        let few = t.1 in
        subst (Within (suc n)) w.2 (t.0, omega (arith, few))

    module _ (f : FilePart) (here : slice_get files file ≡ Some f) where
      spec_within : (blob : List ℕ) (s : SigType) → expanded k ps file (spec_signature f.metadata blob) ≡ Some s → Within 255 s
      unfolding spec_signature
      spec_within blob s e = by (whole_spec blob) refl e
        where
          by : (p : Part Spelling) → whole_spec blob ≡ p → expanded k ps file (type_from f.metadata p) ≡ Some s → Within 255 s
          by (Ok t) is g =
              let of = (spec_takes blob t is).0 in
              let w = brackets_within t.ranks (raw_element f.metadata t.elem t.token) s (λ u. element_within f.metadata t.elem t.token u (element_value of.element t.elem t.token of.is_element)) g in
              let few = of.few in
              let deep = w.1 in
              (w.0, omega (arith, few, deep))
          by (Err left) is g = absurd (let none = faulty_law files k file f here in cc (sym none ∙ g))

      operand_within : (token : TypeToken) (s : SigType) → operand_type k ps file token ≡ Some s → Within 255 s
      operand_within (TypeDef n) s e = let w = some_map ClassToken (resolve k ps file (TypeDef n)) s e in let t = class_within w.0 in let few = t.1 in subst (Within 255) w.2 (t.0, omega (arith, few))
      operand_within (TypeRef n) s e = let w = some_map ClassToken (resolve k ps file (TypeRef n)) s e in let t = class_within w.0 in let few = t.1 in subst (Within 255) w.2 (t.0, omega (arith, few))
      operand_within (TypeSpec n) s e =
          let there = sym (ap (λ o. on_some o (λ (p : Assembly). on_some (slice_get p.specs n) (expanded k ps file))) (assembly_at files file f here)) ∙ e in
          let r = on_some_back (slice_get _ n) (expanded k ps file) s there in
          let row = some_map (λ row. spec_signature f.metadata (bytes_at f.metadata (slice_index row 0))) (slice_get (rows_of f.metadata type_specs) n) r.0 (sym (slice_get-map _ (rows_of f.metadata type_specs) n) ∙ r.1) in
          spec_within (bytes_at f.metadata (slice_index row.0 0)) s (subst (λ (t : RawType). expanded k ps file t ≡ Some s) (sym row.2) r.2)

      pub type_fits : (token : TypeToken) (s : SigType) → operand_type k ps file token ≡ Some s → (type_spelt (type_in cs s) ≡ true) × (has_arrays (type_to (type_in cs s)) ≡ true)
      type_fits token s e = let w = operand_within token s e in let few = w.1 in (w.0, lt-ltb (type_to (type_in cs s)).ranks 65535 (omega (arith, few)))
