-- Signatures by their parts, in the order in which they are written.
use Rattle.std.proofs.Common.{◌≡◌, ℕ, zero, suc, ◌+◌, ◌<◌, Bool, true, false, List, [], ◌∷◌, ◌++◌, map, length, take, get_or, replicate, Result, Option, Some, None, Ok, Err, refl, sym, ap, subst, ◌∙◌, append_assoc}
use Rattle.std.specs.Prelude.{if◌then◌else◌}
use Rattle.std.specs.List.{flat_map}
use Rattle.std.specs.Option.{option_map}
use Rattle.std.proofs.lemmas.List.{append-nil, map-append, length-map, take_more}
use Rattle.std.proofs.lemmas.List.Concat.{flat_map-append}
use Rattle.plain_types.specs.declared.elem.Elem.{Elem}
use Rattle.plain_types.specs.declared.elem.Elem.TheVariants as elem
use Rattle.file_tables.specs.declared.schema.Coded.TheVariants.{TypeDefOrRef}
use Rattle.file_tables.specs.Metadata.{MetadataPart}
use Rattle.cil_sig.specs.declared.sig.SigType.{SigType}
use Rattle.cil_sig.specs.declared.sig.SigFault.{SigFault}
use Rattle.cil_sig.specs.declared.sig.SigFault.TheVariants.{Bad}
use Rattle.cil_sig.specs.declared.sig.MethodSig.{MethodSig}
use Rattle.cil_sig.specs.Elements.{names_type}
use Rattle.cil_sig.specs.Reading.{Part, answer, Answers, whole_field, whole_spec, whole_method, whole_locals}
use Rattle.assemblies.specs.Rows.{RawType, RawSpelt, RawClass, RawValue, RawArray, RawPlace, RawDirect, RawByRef}
use Rattle.assemblies.specs.Chosen.{Choice, token_to, raw_to, place_to, signature_to}
use Rattle.image_bytes.specs.Layout.{word_onto, all_onto}
use Rattle.image_form.specs.Signatures.{type_word, elem_byte, raw_onto, place_onto, result_onto, signature_onto, locals_onto}
use Rattle.world_rows.specs.Tokens.{coded_type}
use Rattle.world_rows.specs.Signatures.{raw_element, in_brackets, raw_type, raw_place, is_void, raw_result, type_from, signature_from, locals_from, field_signature, method_signature, spec_signature, locals_signature}
use Rattle.kept_marks.specs.Masks.{Masks, choice_of_rows}
use Rattle.converted.specs.Cut.{one_byte, bytes_cut}
use Rattle.image_signatures.specs.Spelt.{element_spelt, type_spelt, place_spelt, result_spelt, types_spelt, places_spelt, none_spelt, read_spelt, unread_spelt, locals_read_spelt, field_spelt, spec_spelt, method_spelt, locals_spelt}

-- ---- what is spelt before a rest

raw_before : (s : RawType) (rest : List ℕ) → raw_onto s rest ≡ raw_onto s [] ++ rest
raw_before (RawSpelt e) rest = refl
raw_before (RawClass t) rest = refl
raw_before (RawValue t) rest = refl
raw_before (RawArray s) rest = ap (λ bs. 29 ∷ bs) (raw_before s rest)

place_before : (s : RawPlace) (rest : List ℕ) → place_onto s rest ≡ place_onto s [] ++ rest
place_before (RawDirect s) rest = raw_before s rest
place_before (RawByRef s) rest = ap (λ bs. 16 ∷ bs) (raw_before s rest)

result_before : (o : Option RawType) (rest : List ℕ) → result_onto o rest ≡ result_onto o [] ++ rest
result_before None rest = refl
result_before (Some s) rest = raw_before s rest

cut_both : (xs ys : List ℕ) → bytes_cut (xs ++ ys) ≡ bytes_cut xs ++ bytes_cut ys
cut_both xs ys = map-append one_byte xs ys

-- one after the other
all_spelt : {A B : Type 0} (to : A → B) (spell : B → List ℕ → List ℕ) (each : A → List ℕ) → ((x : A) → bytes_cut (spell (to x) []) ≡ each x) → ((y : B) (rest : List ℕ) → spell y rest ≡ spell y [] ++ rest) → (xs : List A) → bytes_cut (all_onto spell (map to xs) []) ≡ flat_map each xs
all_spelt to spell each is before [] = refl
all_spelt to spell each is before (x ∷ xs) =
    let rest : List ℕ = all_onto spell (map to xs) [] in
    ap bytes_cut (before (to x) rest)
    ∙ cut_both (spell (to x) []) rest
    ∙ ap (λ bs. bs ++ bytes_cut rest) (is x)
    ∙ ap (λ bs. each x ++ bs) (all_spelt to spell each is before xs)

maps_both : {A B C : Type 0} (f : A → B) (g : B → C) (xs : List A) → map g (map f xs) ≡ map (λ x. g (f x)) xs
maps_both f g [] = refl
maps_both f g (x ∷ xs) = ap (λ ys. g (f x) ∷ ys) (maps_both f g xs)

-- one more of a list
pub one_more : {A : Type 0} (spelt : A → List ℕ) (start now next : List ℕ) (xs : List A) (i : ℕ) (d : A) → i < length xs → now ≡ start ++ flat_map spelt (take i xs) → next ≡ now ++ spelt (get_or xs i d) → next ≡ start ++ flat_map spelt (take (i + 1) xs)
one_more spelt start now next xs i d within before pushed =
    pushed
    ∙ ap (λ ys. ys ++ spelt (get_or xs i d)) before
    ∙ append_assoc start (flat_map spelt (take i xs)) (spelt (get_or xs i d))
    ∙ ap (λ ys. start ++ ys)
    (ap (λ ys. flat_map spelt (take i xs) ++ ys) (sym (append-nil (spelt (get_or xs i d))))
    ∙ sym (flat_map-append spelt (take i xs) (get_or xs i d ∷ []))
    ∙ ap (flat_map spelt) (sym (take_more xs i d within)))

-- two and three pushes
pub both_pushed : (out mid new a b c : List ℕ) → mid ≡ out ++ a → new ≡ mid ++ b → a ++ b ≡ c → new ≡ out ++ c
both_pushed out mid new a b c e f is = f ∙ ap (λ ys. ys ++ b) e ∙ append_assoc out a b ∙ ap (λ ys. out ++ ys) is

module _ (kept : Masks) (m : MetadataPart) where
  abbrev k : Choice
  k = choice_of_rows kept

  -- ---- types

  brackets : (n : ℕ) (s : RawType) → bytes_cut (raw_onto (raw_to k (in_brackets n s)) []) ≡ replicate n 29 ++ bytes_cut (raw_onto (raw_to k s) [])
  brackets zero s = refl
  brackets (suc n) s = ap (λ bs. 29 ∷ bs) (brackets n s)

  pub type_parts : (s : SigType) → replicate s.ranks 29 ++ element_spelt kept m s.elem s.token ≡ type_spelt kept m s
  type_parts s = sym (brackets s.ranks (raw_element m s.elem s.token))

  pub named : (e : Elem) (t : ℕ) → names_type e ≡ true → elem_byte e ∷ bytes_cut (word_onto (type_word (token_to k (coded_type m TypeDefOrRef t))) []) ≡ element_spelt kept m e t
  named elem.Class t h = refl
  named elem.Value t h = refl
  named elem.Void t h = absurd (cc h)
  named elem.Bool t h = absurd (cc h)
  named elem.Char t h = absurd (cc h)
  named elem.I1 t h = absurd (cc h)
  named elem.U1 t h = absurd (cc h)
  named elem.I2 t h = absurd (cc h)
  named elem.U2 t h = absurd (cc h)
  named elem.I4 t h = absurd (cc h)
  named elem.U4 t h = absurd (cc h)
  named elem.I8 t h = absurd (cc h)
  named elem.U8 t h = absurd (cc h)
  named elem.String t h = absurd (cc h)
  named elem.Object t h = absurd (cc h)

  pub unnamed : (e : Elem) (t : ℕ) → names_type e ≡ false → elem_byte e ∷ [] ≡ element_spelt kept m e t
  unnamed elem.Class t h = absurd (cc h)
  unnamed elem.Value t h = absurd (cc h)
  unnamed elem.Void t h = refl
  unnamed elem.Bool t h = refl
  unnamed elem.Char t h = refl
  unnamed elem.I1 t h = refl
  unnamed elem.U1 t h = refl
  unnamed elem.I2 t h = refl
  unnamed elem.U2 t h = refl
  unnamed elem.I4 t h = refl
  unnamed elem.U4 t h = refl
  unnamed elem.I8 t h = refl
  unnamed elem.U8 t h = refl
  unnamed elem.String t h = refl
  unnamed elem.Object t h = refl

  place_by : (s : SigType) (b : Bool) → (if b then 16 ∷ type_spelt kept m s else type_spelt kept m s) ≡ bytes_cut (place_onto (place_to k (if b then RawByRef (raw_type m s) else RawDirect (raw_type m s))) [])
  place_by s true = refl
  place_by s false = refl

  pub pointer_place : (s : SigType) → s.pointer ≡ true → 16 ∷ type_spelt kept m s ≡ place_spelt kept m s
  pointer_place s h = sym (ap (λ (b : Bool). if b then 16 ∷ type_spelt kept m s else type_spelt kept m s) h) ∙ place_by s s.pointer

  pub direct_place : (s : SigType) → s.pointer ≡ false → type_spelt kept m s ≡ place_spelt kept m s
  direct_place s h = sym (ap (λ (b : Bool). if b then 16 ∷ type_spelt kept m s else type_spelt kept m s) h) ∙ place_by s s.pointer

  result_by : (s : SigType) (b : Bool) → (if b then 1 ∷ [] else type_spelt kept m s) ≡ bytes_cut (result_onto (option_map (raw_to k) (if b then None else Some (raw_type m s))) [])
  result_by s true = refl
  result_by s false = refl

  pub void_result : (s : SigType) → is_void s.elem ≡ true → 1 ∷ [] ≡ result_spelt kept m s
  void_result s h = sym (ap (λ (b : Bool). if b then 1 ∷ [] else type_spelt kept m s) h) ∙ result_by s (is_void s.elem)

  pub other_result : (s : SigType) → is_void s.elem ≡ false → type_spelt kept m s ≡ result_spelt kept m s
  other_result s h = sym (ap (λ (b : Bool). if b then 1 ∷ [] else type_spelt kept m s) h) ∙ result_by s (is_void s.elem)

  -- ---- lists

  places_law : (ss : List SigType) → bytes_cut (all_onto place_onto (map (place_to k) (map (raw_place m) ss)) []) ≡ places_spelt kept m ss
  places_law ss =
      ap (λ ps. bytes_cut (all_onto place_onto ps [])) (maps_both (raw_place m) (place_to k) ss)
      ∙ all_spelt (λ s. place_to k (raw_place m s)) place_onto (place_spelt kept m) (λ s. refl) place_before ss

  types_law : (ss : List SigType) → bytes_cut (all_onto raw_onto (map (raw_to k) (map (raw_type m) ss)) []) ≡ types_spelt kept m ss
  types_law ss =
      ap (λ ps. bytes_cut (all_onto raw_onto ps [])) (maps_both (raw_type m) (raw_to k) ss)
      ∙ all_spelt (λ s. raw_to k (raw_type m s)) raw_onto (type_spelt kept m) (λ s. refl) raw_before ss

  -- ---- signatures

  read : {X : Type 0} (blob : List ℕ) (p : Part X) (x : X) → Path (Result X SigFault) (Ok x) (answer blob p) → Ok x ≡ p
  read blob (Ok y) x e = let same : x ≡ y = cc e in ap Ok same
  read blob (Err left) x e = absurd (cc e)

  type_of : (blob : List ℕ) (p : Part SigType) (fault : SigFault) → Path (Result SigType SigFault) (Err fault) (answer blob p) → none_spelt kept m ≡ bytes_cut (raw_onto (raw_to k (type_from m p)) [])
  type_of blob (Ok y) fault e = absurd (cc e)
  type_of blob (Err left) fault e = refl

  pub field_read : (blob : List ℕ) (s : SigType) → Path (Result SigType SigFault) (Ok s) (answer blob (whole_field blob)) → type_spelt kept m s ≡ field_spelt kept m blob
  unfolding field_signature
  field_read blob s e = ap (λ p. bytes_cut (raw_onto (raw_to k (type_from m p)) [])) (read blob (whole_field blob) s e)

  pub field_faulty : (blob : List ℕ) (fault : SigFault) → Path (Result SigType SigFault) (Err fault) (answer blob (whole_field blob)) → none_spelt kept m ≡ field_spelt kept m blob
  unfolding field_signature
  field_faulty blob fault e = type_of blob (whole_field blob) fault e

  pub spec_read : (blob : List ℕ) (s : SigType) → Path (Result SigType SigFault) (Ok s) (answer blob (whole_spec blob)) → type_spelt kept m s ≡ spec_spelt kept m blob
  unfolding spec_signature
  spec_read blob s e = ap (λ p. bytes_cut (raw_onto (raw_to k (type_from m p)) [])) (read blob (whole_spec blob) s e)

  pub spec_faulty : (blob : List ℕ) (fault : SigFault) → Path (Result SigType SigFault) (Err fault) (answer blob (whole_spec blob)) → none_spelt kept m ≡ spec_spelt kept m blob
  unfolding spec_signature
  spec_faulty blob fault e = type_of blob (whole_spec blob) fault e

  first_by : (b : Bool) → (if b then 32 else 0) ≡ one_byte (if b then 32 else 0)
  first_by true = refl
  first_by false = refl

  read_law : (s : MethodSig) → read_spelt kept m s ≡ bytes_cut (signature_onto (signature_to k (signature_from m (Ok s))) [])
  read_law s =
      let result : Option RawType = option_map (raw_to k) (raw_result m s.returns) in
      let places : List RawPlace = map (place_to k) (map (raw_place m) s.params) in
      let count : length s.params ≡ length places = sym (length-map (map (raw_place m) s.params) (place_to k) ∙ length-map s.params (raw_place m)) in
      let behind : result_spelt kept m s.returns ++ places_spelt kept m s.params ≡ bytes_cut (result_onto result (all_onto place_onto places [])) =
      ap (λ bs. result_spelt kept m s.returns ++ bs) (sym (places_law s.params))
      ∙ sym (cut_both (result_onto result []) (all_onto place_onto places []))
      ∙ ap bytes_cut (sym (result_before result (all_onto place_onto places []))) in
      ap (λ b. b ∷ (bytes_cut (word_onto (length s.params) []) ++ (result_spelt kept m s.returns ++ places_spelt kept m s.params))) (first_by s.this)
      ∙ ap (λ n. one_byte (if s.this then 32 else 0) ∷ (bytes_cut (word_onto n []) ++ (result_spelt kept m s.returns ++ places_spelt kept m s.params))) count
      ∙ ap (λ bs. one_byte (if s.this then 32 else 0) ∷ (bytes_cut (word_onto (length places) []) ++ bs)) behind

  pub method_read : (blob : List ℕ) (s : MethodSig) → Path (Result MethodSig SigFault) (Ok s) (answer blob (whole_method blob)) → read_spelt kept m s ≡ method_spelt kept m blob
  unfolding method_signature
  method_read blob s e = read_law s ∙ ap (λ p. bytes_cut (signature_onto (signature_to k (signature_from m p)) [])) (read blob (whole_method blob) s e)

  pub method_faulty : (blob : List ℕ) (fault : SigFault) (at : ℕ) → fault ≡ Bad at → Answers {X = MethodSig} (Err fault) (answer blob (whole_method blob)) → unread_spelt kept m ≡ method_spelt kept m blob
  unfolding method_signature
  method_faulty blob fault at is e = go (whole_method blob) (subst (λ x. Answers {X = MethodSig} (Err x) (answer blob (whole_method blob))) is e)
    where
      go : (p : Part MethodSig) → Path (Result MethodSig SigFault) (Err (Bad at)) (answer blob p) → unread_spelt kept m ≡ bytes_cut (signature_onto (signature_to k (signature_from m p)) [])
      go (Ok y) h = absurd (cc h)
      go (Err left) h = refl

  locals_law : (ss : List SigType) → locals_read_spelt kept m ss ≡ bytes_cut (locals_onto (map (raw_to k) (locals_from m (Ok ss))) [])
  locals_law ss =
      let count : length ss ≡ length (map (raw_to k) (map (raw_type m) ss)) = sym (length-map (map (raw_type m) ss) (raw_to k) ∙ length-map ss (raw_type m)) in
      ap (λ n. bytes_cut (word_onto n []) ++ types_spelt kept m ss) count
      ∙ ap (λ bs. bytes_cut (word_onto (length (map (raw_to k) (map (raw_type m) ss))) []) ++ bs) (sym (types_law ss))

  pub locals_read : (blob : List ℕ) (ss : List SigType) → Path (Result (List SigType) SigFault) (Ok ss) (answer blob (whole_locals blob)) → locals_read_spelt kept m ss ≡ locals_spelt kept m blob
  unfolding locals_signature
  locals_read blob ss e = locals_law ss ∙ ap (λ p. bytes_cut (locals_onto (map (raw_to k) (locals_from m p)) [])) (read blob (whole_locals blob) ss e)

  pub locals_faulty : (blob : List ℕ) (fault : SigFault) (at : ℕ) → fault ≡ Bad at → Answers {X = List SigType} (Err fault) (answer blob (whole_locals blob)) → bytes_cut (word_onto 0 []) ≡ locals_spelt kept m blob
  unfolding locals_signature
  locals_faulty blob fault at is e = go (whole_locals blob) (subst (λ x. Answers {X = List SigType} (Err x) (answer blob (whole_locals blob))) is e)
    where
      go : (p : Part (List SigType)) → Path (Result (List SigType) SigFault) (Err (Bad at)) (answer blob p) → bytes_cut (word_onto 0 []) ≡ bytes_cut (locals_onto (map (raw_to k) (locals_from m p)) [])
      go (Ok y) h = absurd (cc h)
      go (Err left) h = refl
