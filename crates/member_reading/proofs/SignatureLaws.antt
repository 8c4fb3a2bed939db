-- Signatures by their parts.
use Rattle.std.proofs.Common.{◌≡◌, ℕ, zero, suc, ◌+◌, ◌<◌, Bool, true, false, List, [], ◌∷◌, ◌++◌, length, map, take, get_or, Option, Some, None, Ok, Err, refl, sym, ap, ◌∙◌}
use Rattle.std.specs.Prelude.{slice_get, if◌then◌else◌}
use Rattle.std.specs.Option.{option_map}
use Rattle.plain_types.specs.declared.elem.Elem.{Elem}
use Rattle.plain_types.specs.declared.elem.Elem.TheVariants as elem
use Rattle.file_tables.specs.declared.schema.Coded.TheVariants.{TypeDefOrRef}
use Rattle.type_names.specs.Resolved.{class_coded}
use Rattle.world_rows.specs.Tokens.{coded_type}
use Rattle.file_tables.specs.Metadata.{MetadataPart}
use Rattle.file_tables.specs.File.{FilePart}
use Rattle.cil_sig.specs.declared.sig.SigType.{SigType}
use Rattle.cil_sig.specs.declared.sig.MethodSig.{MethodSig}
use Rattle.cil_sig.specs.Reading.{whole_field, whole_method}
use Rattle.machine.specs.Throw.{on_some}
use Rattle.classes.specs.Classes as classes
use Rattle.assemblies.specs.Rows.{RawType, RawSpelt, RawDirect, RawByRef, Assembly}
use Rattle.assemblies.specs.Binding.{resolve, both_some, all_some, expanded, expanded_place, expanded_result, expanded_signature}
use Rattle.assemblies.proofs.Back.{get_there}
use Rattle.member_keys.specs.Seen.{arrays}
use Rattle.world_rows.specs.Signatures.{in_brackets, raw_element, raw_type, raw_place, is_void, raw_result, type_from, signature_from, faulty_type, faulty_signature, field_signature, method_signature}
use Rattle.world_rows.specs.World.{rows_alone, assemblies_of}
use Rattle.world_rows.proofs.Alone.{resolve_alone, faulty_law, faulty_method_law}
use Rattle.std.proofs.lemmas.Option.{slice_get-get_or}
use Rattle.member_reading.proofs.SearchLaws.{one_more}
use Rattle.member_reading.specs.Meant.{scopes, element_meant, type_meant, place_meant, result_meant, signature_meant, field_type_meant, method_signature_meant}

-- ---- lists of which each must be there

pub all_some_push : {A B : Type 0} (f : A → Option B) (xs : List A) (x : A) (ys : List B) (y : B) → all_some f xs ≡ Some ys → f x ≡ Some y → all_some f (xs ++ x ∷ []) ≡ Some (ys ++ y ∷ [])
all_some_push f [] x [] y e k = ap (λ o. both_some (λ y ys. y ∷ ys) o (Some [])) k
all_some_push f [] x (z ∷ ys) y e k = absurd (cc e)
all_some_push {A} {B} f (w ∷ xs) x ys y e k = go (f w) (all_some f xs) refl (λ zs g. all_some_push f xs x zs y g k) e
  where
    go : (a : Option B) (r : Option (List B)) → all_some f xs ≡ r → ((zs : List B) → all_some f xs ≡ Some zs → all_some f (xs ++ x ∷ []) ≡ Some (zs ++ y ∷ [])) → both_some (λ y ys. y ∷ ys) a r ≡ Some ys → both_some (λ y ys. y ∷ ys) a (all_some f (xs ++ x ∷ [])) ≡ Some (ys ++ y ∷ [])
    go None r g rest h = absurd (cc h)
    go (Some z) None g rest h = absurd (cc h)
    go (Some z) (Some zs) g rest h =
        let same : z ∷ zs ≡ ys = cc h in
        ap (both_some (λ y ys. y ∷ ys) (Some z)) (rest zs g) ∙ ap (λ ws. Some (ws ++ y ∷ [])) same

pub all_some_none : {A B : Type 0} (f : A → Option B) (xs : List A) (i : ℕ) (x : A) → slice_get xs i ≡ Some x → f x ≡ None → all_some f xs ≡ None
all_some_none f [] i x e k = absurd (cc e)
all_some_none f (y ∷ ys) zero x e k = let same : y ≡ x = cc e in ap (λ o. both_some (λ y ys. y ∷ ys) o (all_some f ys)) (ap f same ∙ k)
all_some_none {A} {B} f (y ∷ ys) (suc i) x e k = ap (both_some (λ y ys. y ∷ ys) (f y)) (all_some_none f ys i x e k) ∙ go (f y)
  where
    go : (o : Option B) → both_some (λ (y : B) (ys : List B). y ∷ ys) o None ≡ None
    go None = refl
    go (Some z) = refl

-- the next one of a list, in a wrapper
pub next_wrapped : {A B C : Type 0} (f : A → Option B) (wrap : B → C) (xs : List A) (i : ℕ) (d : A) (ys : List C) (y : B) → i < length xs → all_some (λ x. option_map wrap (f x)) (take i xs) ≡ Some ys → Some y ≡ f (get_or xs i d) → all_some (λ x. option_map wrap (f x)) (take (i + 1) xs) ≡ Some (ys ++ wrap y ∷ [])
next_wrapped f wrap xs i d ys y within known e =
    ap (all_some (λ x. option_map wrap (f x))) (one_more xs i (get_or xs i d) (slice_get-get_or xs i d within))
    ∙ all_some_push (λ x. option_map wrap (f x)) (take i xs) (get_or xs i d) ys (wrap y) known (ap (option_map wrap) (sym e))

all_some_map : {A B C : Type 0} (f : B → Option C) (g : A → B) (xs : List A) → all_some f (map g xs) ≡ all_some (λ x. f (g x)) xs
all_some_map f g [] = refl
all_some_map f g (x ∷ xs) = ap (both_some (λ y ys. y ∷ ys) (f (g x))) (all_some_map f g xs)

-- ---- types

in_arrays : (k : ℕ) (ps : List Assembly) (file n : ℕ) (raw : RawType) → expanded k ps file (in_brackets n raw) ≡ option_map (arrays n) (expanded k ps file raw)
in_arrays k ps file zero raw = go (expanded k ps file raw)
  where
    go : (o : Option classes.SigType) → o ≡ option_map (arrays zero) o
    go None = refl
    go (Some s) = refl
in_arrays k ps file (suc n) raw = ap (option_map classes.ArraySig) (in_arrays k ps file n raw) ∙ go (expanded k ps file raw)
  where
    go : (o : Option classes.SigType) → option_map classes.ArraySig (option_map (arrays n) o) ≡ option_map (arrays (suc n)) o
    go None = refl
    go (Some s) = refl

module _ (files : List FilePart) (file : ℕ) where
  abbrev k : ℕ
  k = scopes files

  abbrev ps : List Assembly
  ps = assemblies_of files

  -- a token, and an element without one
  pub class_is : (token : ℕ) → element_meant files file elem.Class token ≡ option_map classes.ClassToken (class_coded files file TypeDefOrRef token)
  class_is token = go (slice_get files file)
    where
      go : (o : Option FilePart) → on_some o (λ f. option_map classes.ClassToken (resolve k ps file (coded_type f.metadata TypeDefOrRef token))) ≡ option_map classes.ClassToken (on_some o (λ f. resolve k (rows_alone files) file (coded_type f.metadata TypeDefOrRef token)))
      go None = refl
      go (Some f) = ap (option_map classes.ClassToken) (resolve_alone files k file (coded_type f.metadata TypeDefOrRef token))

  pub value_is : (token : ℕ) → element_meant files file elem.Value token ≡ option_map classes.ValueToken (class_coded files file TypeDefOrRef token)
  value_is token = go (slice_get files file)
    where
      go : (o : Option FilePart) → on_some o (λ f. option_map classes.ValueToken (resolve k ps file (coded_type f.metadata TypeDefOrRef token))) ≡ option_map classes.ValueToken (on_some o (λ f. resolve k (rows_alone files) file (coded_type f.metadata TypeDefOrRef token)))
      go None = refl
      go (Some f) = ap (option_map classes.ValueToken) (resolve_alone files k file (coded_type f.metadata TypeDefOrRef token))

  pub spelt_is : (e : Elem) (token : ℕ) → file < length files → (e ≡ elem.Class → ⊥) → (e ≡ elem.Value → ⊥) → element_meant files file e token ≡ Some (classes.Spelt e)
  spelt_is e token within no_class no_value = by (get_there files file within)
    where
      spelt : (m : MetadataPart) (g : Elem) → (g ≡ elem.Class → ⊥) → (g ≡ elem.Value → ⊥) → raw_element m g token ≡ RawSpelt g
      spelt m elem.Void a b = refl
      spelt m elem.Bool a b = refl
      spelt m elem.Char a b = refl
      spelt m elem.I1 a b = refl
      spelt m elem.U1 a b = refl
      spelt m elem.I2 a b = refl
      spelt m elem.U2 a b = refl
      spelt m elem.I4 a b = refl
      spelt m elem.U4 a b = refl
      spelt m elem.I8 a b = refl
      spelt m elem.U8 a b = refl
      spelt m elem.String a b = refl
      spelt m elem.Object a b = refl
      spelt m elem.Class a b = absurd (a refl)
      spelt m elem.Value a b = absurd (b refl)

      by : (f : FilePart) × (slice_get files file ≡ Some f) → element_meant files file e token ≡ Some (classes.Spelt e)
      by (f, there) =
          ap (λ o. on_some o (λ f. expanded k ps file (raw_element f.metadata e token))) there
          ∙ ap (expanded k ps file) (spelt f.metadata e no_class no_value)

  pub type_is : (s : SigType) → type_meant files file s ≡ option_map (arrays s.ranks) (element_meant files file s.elem s.token)
  type_is s = go (slice_get files file)
    where
      go : (o : Option FilePart) → on_some o (λ f. expanded k ps file (raw_type f.metadata s)) ≡ option_map (arrays s.ranks) (on_some o (λ f. expanded k ps file (raw_element f.metadata s.elem s.token)))
      go None = refl
      go (Some f) = in_arrays k ps file s.ranks (raw_element f.metadata s.elem s.token)

  abbrev to_place : Bool → classes.SigType → classes.SigPlace
  to_place by_ref t = if by_ref then classes.ByRef t else classes.Direct t

  place_by : (b : Bool) (raw : RawType) → expanded_place k ps file (if b then RawByRef raw else RawDirect raw) ≡ option_map (to_place b) (expanded k ps file raw)
  place_by true raw = refl
  place_by false raw = refl

  pub place_is : (s : SigType) → place_meant files file s ≡ option_map (to_place s.pointer) (type_meant files file s)
  place_is s = go (slice_get files file)
    where
      go : (o : Option FilePart) → on_some o (λ f. expanded_place k ps file (raw_place f.metadata s)) ≡ option_map (to_place s.pointer) (on_some o (λ f. expanded k ps file (raw_type f.metadata s)))
      go None = refl
      go (Some f) = place_by s.pointer (raw_type f.metadata s)

  result_by : (b : Bool) (raw : RawType) → expanded_result k ps file (if b then None else Some raw) ≡ (if b then Some None else option_map Some (expanded k ps file raw))
  result_by true raw = refl
  result_by false raw = refl

  pub void_result : (s : SigType) → file < length files → is_void s.elem ≡ true → result_meant files file s ≡ Some None
  void_result s within e = by (get_there files file within)
    where
      by : (f : FilePart) × (slice_get files file ≡ Some f) → result_meant files file s ≡ Some None
      by (f, there) =
          ap (λ o. on_some o (λ f. expanded_result k ps file (raw_result f.metadata s))) there
          ∙ ap (λ (b : Bool). expanded_result k ps file (if b then None else Some (raw_type f.metadata s))) e

  pub typed_result : (s : SigType) → is_void s.elem ≡ false → result_meant files file s ≡ option_map Some (type_meant files file s)
  typed_result s e = go (slice_get files file)
    where
      go : (o : Option FilePart) → on_some o (λ f. expanded_result k ps file (raw_result f.metadata s)) ≡ option_map Some (on_some o (λ f. expanded k ps file (raw_type f.metadata s)))
      go None = refl
      go (Some f) = ap (λ (b : Bool). expanded_result k ps file (if b then None else Some (raw_type f.metadata s))) e

  abbrev joined : Bool → Option (Option classes.SigType) → Option (List classes.SigPlace) → Option classes.Signature
  joined this = both_some (λ r p. record { has_this = this; returns = r; parameters = p })

  pub signature_is : (s : MethodSig) → signature_meant files file s ≡ joined s.this (result_meant files file s.returns) (all_some (place_meant files file) s.params)
  signature_is s = go (slice_get files file)
    where
      go : (o : Option FilePart) → on_some o (λ f. expanded_signature k ps file (signature_from f.metadata (Ok s))) ≡ joined s.this (on_some o (λ f. expanded_result k ps file (raw_result f.metadata s.returns))) (all_some (λ p. on_some o (λ f. expanded_place k ps file (raw_place f.metadata p))) s.params)
      go None = refl
      go (Some f) = ap (joined s.this (expanded_result k ps file (raw_result f.metadata s.returns))) (all_some_map (expanded_place k ps file) (raw_place f.metadata) s.params)

  -- ---- blobs

  pub field_formed : (blob : List ℕ) (s : SigType) → whole_field blob ≡ Ok s → field_type_meant files file blob ≡ type_meant files file s
  unfolding field_signature
  field_formed blob s e = ap (λ p. on_some (slice_get files file) (λ f. expanded k ps file (type_from f.metadata p))) e

  pub field_faulty : (blob : List ℕ) (left : ℕ) → whole_field blob ≡ Err left → field_type_meant files file blob ≡ None
  unfolding field_signature
  field_faulty blob left e = ap (λ p. on_some (slice_get files file) (λ f. expanded k ps file (type_from f.metadata p))) e ∙ go (slice_get files file) refl
    where
      go : (o : Option FilePart) → slice_get files file ≡ o → on_some o (λ f. expanded k ps file (faulty_type f.metadata)) ≡ None
      go None there = refl
      go (Some f) there = faulty_law files k file f there

  pub method_formed : (blob : List ℕ) (s : MethodSig) → whole_method blob ≡ Ok s → method_signature_meant files file blob ≡ signature_meant files file s
  unfolding method_signature
  method_formed blob s e = ap (λ p. on_some (slice_get files file) (λ f. expanded_signature k ps file (signature_from f.metadata p))) e

  pub method_faulty : (blob : List ℕ) (left : ℕ) → whole_method blob ≡ Err left → method_signature_meant files file blob ≡ None
  unfolding method_signature
  method_faulty blob left e = ap (λ p. on_some (slice_get files file) (λ f. expanded_signature k ps file (signature_from f.metadata p))) e ∙ go (slice_get files file) refl
    where
      go : (o : Option FilePart) → slice_get files file ≡ o → on_some o (λ f. expanded_signature k ps file (faulty_signature f.metadata)) ≡ None
      go None there = refl
      go (Some f) there = faulty_method_law files k file f there
