-- What the tokens of an image name.
use Rattle.std.proofs.Common.{◌≡◌, ℕ, ◌-◌, ◌<◌, ◌≤◌, ◌⊎◌, inl, inr, Bool, true, false, zero, suc, List, [], ◌∷◌, get_or, length, Option, Some, None, refl, sym, ap, ◌∙◌, arith}
use Rattle.std.specs.Prelude.{nat_lt, slice_get, unwrap_or, if◌then◌else◌}
use Rattle.std.specs.Option.{option_map}
use Rattle.std.proofs.lemmas.Bool.{lt-ltb, le-ltb, cases_lt}
use Rattle.std.proofs.lemmas.Option.{slice_get_past}
use Rattle.machine.specs.Throw.{on_some}
use Rattle.assemblies.specs.Rows.{TypeToken, TypeDef, TypeRef, TypeSpec}
use Rattle.assemblies.specs.Binding.{id_at}
use Rattle.image_form.specs.Signatures.{type_token, elems, elem_at}
use Rattle.image_form.specs.Form.{checked, no_spec}
use Rattle.member_keys.specs.Seen.{class_seen}
use Rattle.scope_walk.specs.Walk.{value_at}
use Rattle.std.proofs.lemmas.List.{get_or_past}
use Rattle.set_signatures.specs.declared.tokens.TheConstants.{ELEMENTS}
use Rattle.set_signatures.specs.declared.tokens.Tokens.{Tokens}
use Rattle.set_signatures.specs.Meant.{own_named, class_named, has_row, plain_of}

is_def : (w : ℕ) → w < 16384 → type_token w ≡ TypeDef w
is_def w h = ap (λ b. if b then TypeDef w else (if nat_lt w 32768 then TypeRef (w - 16384) else TypeSpec (w - 32768))) (lt-ltb w 16384 h)

is_ref : (w : ℕ) → 16384 ≤ w → w < 32768 → type_token w ≡ TypeRef (w - 16384)
is_ref w h g =
    ap (λ b. if b then TypeDef w else (if nat_lt w 32768 then TypeRef (w - 16384) else TypeSpec (w - 32768))) (le-ltb w 16384 h)
    ∙ ap (λ b. if b then TypeRef (w - 16384) else TypeSpec (w - 32768)) (lt-ltb w 32768 g)

is_spec : (w : ℕ) → 32768 ≤ w → type_token w ≡ TypeSpec (w - 32768)
is_spec w h =
    ap (λ b. if b then TypeDef w else (if nat_lt w 32768 then TypeRef (w - 16384) else TypeSpec (w - 32768))) (le-ltb w 16384 (omega arith))
    ∙ ap (λ b. if b then TypeRef (w - 16384) else TypeSpec (w - 32768)) (le-ltb w 32768 h)

module _ (t : Tokens) where
  of_token : (w : ℕ) (u : TypeToken) → type_token w ≡ u → on_some (plain_of t w) (class_named t) ≡ on_some (on_some (checked (has_row t u) u) no_spec) (class_named t)
  of_token w u e = ap (λ v. on_some (on_some (checked (has_row t v) v) no_spec) (class_named t)) e

  pub own_token : (w : ℕ) → w < 16384 → own_named t w ≡ on_some (plain_of t w) (class_named t)
  own_token w h = sym (of_token w (TypeDef w) (is_def w h) ∙ by (nat_lt w t.types) refl)
    where
      by : (b : Bool) → nat_lt w t.types ≡ b → on_some (on_some (checked b (TypeDef w)) no_spec) (class_named t) ≡ (if b then Some (id_at t.file w) else None)
      by true e = ap (λ c. if c then Some (id_at t.file w) else None) e
      by false e = refl

  pub ref_token : (w : ℕ) → 16384 ≤ w → w < 32768 → value_at t.references.now (w - 16384) ≡ on_some (plain_of t w) (class_named t)
  ref_token w h g = sym (of_token w (TypeRef (w - 16384)) (is_ref w h g) ∙ by (cases_lt (w - 16384) (length t.references.now)))
    where
      by : ((w - 16384) < length t.references.now) ⊎ (length t.references.now ≤ w - 16384) → on_some (on_some (checked (nat_lt (w - 16384) (length t.references.now)) (TypeRef (w - 16384))) no_spec) (class_named t) ≡ value_at t.references.now (w - 16384)
      by (inl lt) = ap (λ b. on_some (on_some (checked b (TypeRef (w - 16384))) no_spec) (class_named t)) (lt-ltb (w - 16384) (length t.references.now) lt)
      by (inr le) =
          ap (λ b. on_some (on_some (checked b (TypeRef (w - 16384))) no_spec) (class_named t)) (le-ltb (w - 16384) (length t.references.now) le)
          ∙ sym (ap (λ o. on_some o (option_map class_seen)) (slice_get_past t.references.now (w - 16384) le))

  pub spec_token : (w : ℕ) → 32768 ≤ w → None ≡ on_some (plain_of t w) (class_named t)
  spec_token w h = sym (of_token w (TypeSpec (w - 32768)) (is_spec w h))

-- ---- the elements that a byte alone spells

element_table : {A : Type 0} (os : List (Option A)) (k : ℕ) → get_or os k None ≡ unwrap_or (slice_get os k) None
element_table [] k = refl
element_table (o ∷ os) zero = refl
element_table (o ∷ os) (suc k) = element_table os k

pub element_is : (code : ℕ) → get_or ELEMENTS code None ≡ elem_at code
element_is code = element_table elems code

pub no_element : (code : ℕ) → 29 ≤ code → None ≡ elem_at code
no_element code h = sym (get_or_past ELEMENTS code None (omega arith)) ∙ element_is code
