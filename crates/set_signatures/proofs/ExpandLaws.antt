-- What the signatures of an image mean is what the rows of its set say, where its tokens name what the set's do.
use Rattle.std.proofs.Common.{◌≡◌, ℕ, ◌<◌, ◌≤◌, ◌⊎◌, inl, inr, Bool, true, false, List, [], ◌∷◌, length, Option, Some, None, refl, sym, ap, ◌∙◌, arith}
use Rattle.std.specs.Prelude.{nat_lt, slice_get, if◌then◌else◌}
use Rattle.std.proofs.Math.Path.{fun_ext}
use Rattle.std.proofs.lemmas.Bool.{lt-ltb, le-ltb, cases_lt}
use Rattle.std.proofs.lemmas.Option.{slice_get_past}
use Rattle.machine.specs.Throw.{on_some}
use Rattle.image_bytes.specs.Layout.{Image, rows_of}
use Rattle.image_form.specs.Signatures.{type_token, read_type, read_signature, whole}
use Rattle.image_form.specs.Form.{checked, no_spec}
use Rattle.image_form.specs.Whole.{token_in}
use Rattle.image_form.specs.Whole as rows
use Rattle.scope_walk.proofs.Lists.{none_past}
use Rattle.std.specs.Option.{option_map, option_map_or}
use Rattle.classes.specs.Classes.{ClassToken, ValueToken, ArraySig, SigPlace, Direct, ByRef}
use Rattle.assemblies.specs.Rows.{Assembly, TypeRow, TypeToken, TypeDef, TypeRef, TypeSpec, RawType, RawSpelt, RawClass, RawValue, RawArray, RawPlace, RawDirect, RawByRef, RawSignature}
use Rattle.assemblies.specs.Binding.{id_at, resolve, both_some, all_some, expanded, expanded_place, expanded_result, expanded_signature}
use Rattle.set_signatures.specs.declared.tokens.Tokens.{Tokens}
use Rattle.set_signatures.specs.Meant.{own_named, class_named, has_row, plain_of, type_meant, place_meant, result_meant, signature_meant, joined, field_told, method_told}
use Rattle.set_signatures.specs.Law.{AreTokens}

module _ (k : ℕ) (ps : List Assembly) (file : ℕ) (t : Tokens) (same : (u : TypeToken) → class_named t u ≡ resolve k ps file u) where
  pub type_expanded : (s : RawType) → type_meant t s ≡ expanded k ps file s
  type_expanded (RawSpelt e) = refl
  type_expanded (RawClass u) = ap (option_map ClassToken) (same u)
  type_expanded (RawValue u) = ap (option_map ValueToken) (same u)
  type_expanded (RawArray s) = ap (option_map ArraySig) (type_expanded s)

  place_expanded : (p : RawPlace) → place_meant t p ≡ expanded_place k ps file p
  place_expanded (RawDirect s) = ap (option_map Direct) (type_expanded s)
  place_expanded (RawByRef s) = ap (option_map ByRef) (type_expanded s)

  places_expanded : (ss : List RawPlace) → all_some (place_meant t) ss ≡ all_some (expanded_place k ps file) ss
  places_expanded [] = refl
  places_expanded (p ∷ ss) =
      ap (λ o. both_some (λ (y : SigPlace) ys. y ∷ ys) o (all_some (place_meant t) ss)) (place_expanded p)
      ∙ ap (both_some (λ (y : SigPlace) ys. y ∷ ys) (expanded_place k ps file p)) (places_expanded ss)

  result_expanded : (r : Option RawType) → result_meant t r ≡ expanded_result k ps file r
  result_expanded None = refl
  result_expanded (Some s) = ap (option_map Some) (type_expanded s)

  pub signature_expanded : (s : RawSignature) → signature_meant t s ≡ expanded_signature k ps file s
  signature_expanded s =
      ap (λ r. both_some (joined s.has_this) r (all_some (place_meant t) s.parameters)) (result_expanded s.returns)
      ∙ ap (both_some (joined s.has_this) (expanded_result k ps file s.returns)) (places_expanded s.parameters)

-- ---- the tokens of an image

module _ (i : Image) (k : ℕ) (ps : List Assembly) (t : Tokens) (are : AreTokens i k ps t) where
  own_is : (n : ℕ) → own_named t n ≡ on_some (slice_get ps t.file) (λ p. option_map (λ x. id_at t.file n) (slice_get p.types n))
  own_is n = ap (λ m. if nat_lt n m then Some (id_at t.file n) else None) are.types ∙ go (slice_get ps t.file)
    where
      by : (p : Assembly) → (n < length p.types) ⊎ (length p.types ≤ n) → (if nat_lt n (length p.types) then Some (id_at t.file n) else None) ≡ option_map (λ x. id_at t.file n) (slice_get p.types n)
      by p (inl below) = ap (λ b. if b then Some (id_at t.file n) else None) (lt-ltb n (length p.types) below) ∙ sym (there (slice_get p.types n) (past_not p below))
        where
          past_not : (p : Assembly) → n < length p.types → slice_get p.types n ≡ None → ⊥
          past_not p below e = let past = none_past p.types n e in omega arith

          there : (o : Option TypeRow) → (o ≡ None → ⊥) → option_map (λ x. id_at t.file n) o ≡ Some (id_at t.file n)
          there None h = absurd (h refl)
          there (Some x) h = refl
      by p (inr past) = ap (λ b. if b then Some (id_at t.file n) else None) (le-ltb n (length p.types) past) ∙ sym (ap (option_map (λ (x : TypeRow). id_at t.file n)) (slice_get_past p.types n past))

      go : (o : Option Assembly) → (if nat_lt n (option_map_or (λ (p : Assembly). length p.types) o 0) then Some (id_at t.file n) else None) ≡ on_some o (λ p. option_map (λ x. id_at t.file n) (slice_get p.types n))
      go None = ap (λ b. if b then Some (id_at t.file n) else None) (le-ltb n 0 (omega arith))
      go (Some p) = by p (cases_lt n (length p.types))

  pub tokens_mean : (u : TypeToken) → class_named t u ≡ resolve k ps t.file u
  tokens_mean (TypeDef n) = own_is n
  tokens_mean (TypeRef n) = are.references n
  tokens_mean (TypeSpec n) = refl

  abbrev plain_in : ℕ → Option TypeToken
  plain_in w = on_some (token_in i w) no_spec

  plain_same : (u : TypeToken) → on_some (checked (has_row t u) u) no_spec ≡ on_some (checked (rows.has_row i u) u) no_spec
  plain_same (TypeDef n) = ap (λ m. on_some (checked (nat_lt n m) (TypeDef n)) no_spec) are.rows
  plain_same (TypeRef n) = ap (λ m. on_some (checked (nat_lt n m) (TypeRef n)) no_spec) are.size
  plain_same (TypeSpec n) = none (nat_lt n (rows_of i 9))
    where
      none : (b : Bool) → None ≡ on_some (checked b (TypeSpec n)) no_spec
      none true = refl
      none false = refl

  plain_is : plain_of t ≡ plain_in
  plain_is = fun_ext (λ w. plain_same (type_token w))

  on_same : {A B : Type 0} (f g : A → Option B) → ((x : A) → f x ≡ g x) → (o : Option A) → on_some o f ≡ on_some o g
  on_same f g h None = refl
  on_same f g h (Some x) = h x

  pub field_means : (bytes : List ℕ) → field_told t bytes ≡ on_some (whole (read_type plain_in) bytes) (expanded k ps t.file)
  unfolding field_told
  field_means bytes = ap (λ plain. on_some (whole (read_type plain) bytes) (type_meant t)) plain_is ∙ on_same (type_meant t) (expanded k ps t.file) (type_expanded k ps t.file t tokens_mean) (whole (read_type plain_in) bytes)

  pub method_means : (bytes : List ℕ) → method_told t bytes ≡ on_some (whole (read_signature plain_in) bytes) (expanded_signature k ps t.file)
  unfolding method_told
  method_means bytes = ap (λ plain. on_some (whole (read_signature plain) bytes) (signature_meant t)) plain_is ∙ on_same (signature_meant t) (expanded_signature k ps t.file) (signature_expanded k ps t.file t tokens_mean) (whole (read_signature plain_in) bytes)
