-- The rows of a signature by its parts.
use Rattle.std.proofs.Common.{◌≡◌, ℕ, zero, suc, Bool, true, false, List, [], ◌∷◌, ◌++◌, map, Result, Ok, Err, refl, sym, ap, subst, ◌∙◌}
use Rattle.std.specs.Prelude.{if◌then◌else◌, Some, None}
use Rattle.std.specs.List.{flat_map}
use Rattle.plain_types.specs.declared.elem.Elem.{Elem}
use Rattle.plain_types.specs.declared.elem.Elem.TheVariants as elem
use Rattle.file_tables.specs.declared.schema.Coded.TheVariants.{TypeDefOrRef}
use Rattle.file_tables.specs.Metadata.{MetadataPart}
use Rattle.cil_sig.specs.declared.sig.SigType.{SigType}
use Rattle.cil_sig.specs.declared.sig.SigFault.{SigFault}
use Rattle.cil_sig.specs.declared.sig.SigFault.TheVariants.{Bad}
use Rattle.cil_sig.specs.declared.sig.MethodSig.{MethodSig}
use Rattle.cil_sig.specs.Elements.{names_type}
use Rattle.cil_sig.specs.Reading.{Part, answer, Answers, whole_field, whole_spec, whole_method, whole_locals}
use Rattle.assemblies.specs.Rows.{RawType, RawDirect, RawByRef}
use Rattle.kept_rules.specs.Row.{by_type, in_option, in_type, in_place, in_signature}
use Rattle.world_rows.specs.Tokens.{coded_type, no_type}
use Rattle.world_rows.specs.Signatures.{raw_element, in_brackets, raw_type, raw_place, is_void, raw_result, type_from, signature_from, field_signature, method_signature, spec_signature, locals_from, locals_signature}
use Rattle.row_rules.specs.Named.{in_sig}

module _ (f : ℕ) (m : MetadataPart) where
  within_brackets : (n : ℕ) (x : RawType) → in_type f (in_brackets n x) ≡ in_type f x
  within_brackets zero x = refl
  within_brackets (suc n) x = within_brackets n x

  one : (e : Elem) (t : ℕ) → names_type e ≡ true → in_type f (raw_element m e t) ≡ by_type f (coded_type m TypeDefOrRef t) ∷ []
  one elem.Class t h = refl
  one elem.Value t h = refl
  one elem.Void t h = absurd (cc h)
  one elem.Bool t h = absurd (cc h)
  one elem.Char t h = absurd (cc h)
  one elem.I1 t h = absurd (cc h)
  one elem.U1 t h = absurd (cc h)
  one elem.I2 t h = absurd (cc h)
  one elem.U2 t h = absurd (cc h)
  one elem.I4 t h = absurd (cc h)
  one elem.U4 t h = absurd (cc h)
  one elem.I8 t h = absurd (cc h)
  one elem.U8 t h = absurd (cc h)
  one elem.String t h = absurd (cc h)
  one elem.Object t h = absurd (cc h)

  none : (e : Elem) (t : ℕ) → names_type e ≡ false → in_type f (raw_element m e t) ≡ []
  none elem.Class t h = absurd (cc h)
  none elem.Value t h = absurd (cc h)
  none elem.Void t h = refl
  none elem.Bool t h = refl
  none elem.Char t h = refl
  none elem.I1 t h = refl
  none elem.U1 t h = refl
  none elem.I2 t h = refl
  none elem.U2 t h = refl
  none elem.I4 t h = refl
  none elem.U4 t h = refl
  none elem.I8 t h = refl
  none elem.U8 t h = refl
  none elem.String t h = refl
  none elem.Object t h = refl

  pub names_one : (s : SigType) → names_type s.elem ≡ true → in_sig f m s ≡ by_type f (coded_type m TypeDefOrRef s.token) ∷ []
  names_one s h = within_brackets s.ranks (raw_element m s.elem s.token) ∙ one s.elem s.token h

  pub names_none : (s : SigType) → names_type s.elem ≡ false → in_sig f m s ≡ []
  names_none s h = within_brackets s.ranks (raw_element m s.elem s.token) ∙ none s.elem s.token h

  -- ---- fields and specifications

  read : {X : Type 0} (blob : List ℕ) (p : Part X) (x : X) → Path (Result X SigFault) (Ok x) (answer blob p) → p ≡ Ok x
  read blob (Ok y) x e = let same : x ≡ y = cc e in ap Ok (sym same)
  read blob (Err left) x e = absurd (cc e)

  type_of : (blob : List ℕ) (p : Part SigType) (fault : SigFault) → Path (Result SigType SigFault) (Err fault) (answer blob p) → in_type f (type_from m p) ≡ by_type f (no_type m) ∷ []
  type_of blob (Ok y) fault e = absurd (cc e)
  type_of blob (Err left) fault e = refl

  pub field_read : (blob : List ℕ) (s : SigType) → Path (Result SigType SigFault) (Ok s) (answer blob (whole_field blob)) → in_type f (field_signature m blob) ≡ in_sig f m s
  unfolding field_signature
  field_read blob s e = ap (λ p. in_type f (type_from m p)) (read blob (whole_field blob) s e)

  pub field_faulty : (blob : List ℕ) (fault : SigFault) → Path (Result SigType SigFault) (Err fault) (answer blob (whole_field blob)) → in_type f (field_signature m blob) ≡ by_type f (no_type m) ∷ []
  unfolding field_signature
  field_faulty blob fault e = type_of blob (whole_field blob) fault e

  pub spec_read : (blob : List ℕ) (s : SigType) → Path (Result SigType SigFault) (Ok s) (answer blob (whole_spec blob)) → in_type f (spec_signature m blob) ≡ in_sig f m s
  unfolding spec_signature
  spec_read blob s e = ap (λ p. in_type f (type_from m p)) (read blob (whole_spec blob) s e)

  pub spec_faulty : (blob : List ℕ) (fault : SigFault) → Path (Result SigType SigFault) (Err fault) (answer blob (whole_spec blob)) → in_type f (spec_signature m blob) ≡ by_type f (no_type m) ∷ []
  unfolding spec_signature
  spec_faulty blob fault e = type_of blob (whole_spec blob) fault e

  -- ---- methods

  void_none : (e : Elem) (t : ℕ) → is_void e ≡ true → in_type f (raw_element m e t) ≡ []
  void_none elem.Void t h = refl
  void_none elem.Class t h = absurd (cc h)
  void_none elem.Value t h = absurd (cc h)
  void_none elem.Bool t h = absurd (cc h)
  void_none elem.Char t h = absurd (cc h)
  void_none elem.I1 t h = absurd (cc h)
  void_none elem.U1 t h = absurd (cc h)
  void_none elem.I2 t h = absurd (cc h)
  void_none elem.U2 t h = absurd (cc h)
  void_none elem.I4 t h = absurd (cc h)
  void_none elem.U4 t h = absurd (cc h)
  void_none elem.I8 t h = absurd (cc h)
  void_none elem.U8 t h = absurd (cc h)
  void_none elem.String t h = absurd (cc h)
  void_none elem.Object t h = absurd (cc h)

  result_names : (s : SigType) → in_option (in_type f) (raw_result m s) ≡ in_sig f m s
  result_names s = go (is_void s.elem) refl
    where
      go : (b : Bool) → is_void s.elem ≡ b → in_option (in_type f) (if b then None else Some (raw_type m s)) ≡ in_sig f m s
      go true h = sym (within_brackets s.ranks (raw_element m s.elem s.token) ∙ void_none s.elem s.token h)
      go false h = refl

  place_names : (s : SigType) → in_place f (raw_place m s) ≡ in_sig f m s
  place_names s = go s.pointer
    where
      go : (b : Bool) → in_place f (if b then RawByRef (raw_type m s) else RawDirect (raw_type m s)) ≡ in_sig f m s
      go true = refl
      go false = refl

  places_name : (ss : List SigType) → flat_map (in_place f) (map (raw_place m) ss) ≡ flat_map (in_sig f m) ss
  places_name [] = refl
  places_name (s ∷ ss) = ap (λ xs. xs ++ flat_map (in_place f) (map (raw_place m) ss)) (place_names s) ∙ ap (λ xs. in_sig f m s ++ xs) (places_name ss)

  pub method_read : (blob : List ℕ) (s : MethodSig) → Path (Result MethodSig SigFault) (Ok s) (answer blob (whole_method blob)) → in_signature f (method_signature m blob) ≡ in_sig f m s.returns ++ flat_map (in_sig f m) s.params
  unfolding method_signature
  method_read blob s e =
      ap (λ p. in_signature f (signature_from m p)) (read blob (whole_method blob) s e)
      ∙ ap (λ xs. xs ++ flat_map (in_place f) (map (raw_place m) s.params)) (result_names s.returns)
      ∙ ap (λ xs. in_sig f m s.returns ++ xs) (places_name s.params)

  pub method_faulty : (blob : List ℕ) (fault : SigFault) (at : ℕ) → fault ≡ Bad at → Answers {X = MethodSig} (Err fault) (answer blob (whole_method blob)) → in_signature f (method_signature m blob) ≡ by_type f (no_type m) ∷ []
  unfolding method_signature
  method_faulty blob fault at is e = go (whole_method blob) (subst (λ x. Answers {X = MethodSig} (Err x) (answer blob (whole_method blob))) is e)
    where
      go : (p : Part MethodSig) → Path (Result MethodSig SigFault) (Err (Bad at)) (answer blob p) → in_signature f (signature_from m p) ≡ by_type f (no_type m) ∷ []
      go (Ok y) h = absurd (cc h)
      go (Err left) h = refl

  -- ---- locals

  locals_name : (ss : List SigType) → flat_map (in_type f) (map (raw_type m) ss) ≡ flat_map (in_sig f m) ss
  locals_name [] = refl
  locals_name (s ∷ ss) = ap (λ xs. in_sig f m s ++ xs) (locals_name ss)

  pub locals_read : (blob : List ℕ) (ss : List SigType) → Answers {X = List SigType} (Ok ss) (answer blob (whole_locals blob)) → flat_map (in_type f) (locals_signature m blob) ≡ flat_map (in_sig f m) ss
  unfolding locals_signature
  locals_read blob ss e = ap (λ p. flat_map (in_type f) (locals_from m p)) (read blob (whole_locals blob) ss e) ∙ locals_name ss

  pub locals_faulty : (blob : List ℕ) (fault : SigFault) (at : ℕ) → fault ≡ Bad at → Answers {X = List SigType} (Err fault) (answer blob (whole_locals blob)) → flat_map (in_type f) (locals_signature m blob) ≡ []
  unfolding locals_signature
  locals_faulty blob fault at is e = go (whole_locals blob) (subst (λ x. Answers {X = List SigType} (Err x) (answer blob (whole_locals blob))) is e)
    where
      go : (p : Part (List SigType)) → Path (Result (List SigType) SigFault) (Err (Bad at)) (answer blob p) → flat_map (in_type f) (locals_from m p) ≡ []
      go (Ok y) h = absurd (cc h)
      go (Err left) h = refl
