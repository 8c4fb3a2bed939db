-- Which tokens have a row.
use Rattle.std.proofs.Common.{◌≡◌, ℕ, ◌-◌, ◌<◌, ◌≤◌, Bool, true, false, Some, List, inl, inr, refl, sym, ap, ◌∙◌, arith}
use Rattle.std.specs.Prelude.{nat_lt, is_some, if◌then◌else◌}
use Rattle.std.specs.Str.{IsUtf8, is_utf8}
use Rattle.std.proofs.lemmas.Bool.{lt-ltb, le-ltb, cases_lt}
use Rattle.std.proofs.lemmas.Str.{IsUtf8-from_is_utf8, is_utf8-from_IsUtf8}
use Rattle.machine.specs.Throw.{on_some}
use Rattle.image_bytes.specs.Layout.{Image, rows_of}
use Rattle.assemblies.specs.Rows.{TypeToken, TypeDef, TypeRef, TypeSpec}
use Rattle.image_form.specs.Signatures.{type_token}
use Rattle.image_form.specs.Form.{checked, no_spec}
use Rattle.image_form.specs.Whole.{has_row, token_in, scope_in}
use Rattle.msspot_read.specs.Forms.{plain_in}

pub if_true : {A : Type 0} (b : Bool) (x y : A) → b ≡ true → (if b then x else y) ≡ x
if_true true x y e = refl
if_true false x y e = absurd (cc e)

pub if_false : {A : Type 0} (b : Bool) (x y : A) → b ≡ false → (if b then x else y) ≡ y
if_false true x y e = absurd (cc e)
if_false false x y e = refl

pub checked_is : {A : Type 0} (b : Bool) (x : A) → is_some (checked b x) ≡ b
checked_is true x = refl
checked_is false x = refl

is_def : (w : ℕ) → w < 16384 → type_token w ≡ TypeDef w
is_def w h = if_true (nat_lt w 16384) (TypeDef w) _ (lt-ltb w 16384 h)

is_ref : (w : ℕ) → 16384 ≤ w → w < 32768 → type_token w ≡ TypeRef (w - 16384)
is_ref w h g = if_false (nat_lt w 16384) (TypeDef w) (if nat_lt w 32768 then TypeRef (w - 16384) else TypeSpec (w - 32768)) (le-ltb w 16384 h) ∙ if_true (nat_lt w 32768) (TypeRef (w - 16384)) (TypeSpec (w - 32768)) (lt-ltb w 32768 g)

is_spec : (w : ℕ) → 32768 ≤ w → type_token w ≡ TypeSpec (w - 32768)
is_spec w h = if_false (nat_lt w 16384) (TypeDef w) (if nat_lt w 32768 then TypeRef (w - 16384) else TypeSpec (w - 32768)) (le-ltb w 16384 (omega arith)) ∙ if_false (nat_lt w 32768) (TypeRef (w - 16384)) (TypeSpec (w - 32768)) (le-ltb w 32768 h)

at_token : (i : Image) (w : ℕ) (t : TypeToken) → type_token w ≡ t → is_some (token_in i w) ≡ has_row i t
at_token i w t e = ap (λ u. is_some (checked (has_row i u) u)) e ∙ checked_is (has_row i t) t

pub own_token : (i : Image) (w : ℕ) → w < 16384 → is_some (token_in i w) ≡ nat_lt w (rows_of i 4)
own_token i w h = at_token i w (TypeDef w) (is_def w h)

pub ref_token : (i : Image) (w : ℕ) → 16384 ≤ w → w < 32768 → is_some (token_in i w) ≡ nat_lt (w - 16384) (rows_of i 1)
ref_token i w h g = at_token i w (TypeRef (w - 16384)) (is_ref w h g)

pub spec_token : (i : Image) (w : ℕ) → 32768 ≤ w → is_some (token_in i w) ≡ nat_lt (w - 32768) (rows_of i 9)
spec_token i w h = at_token i w (TypeSpec (w - 32768)) (is_spec w h)

plain_at : (i : Image) (w : ℕ) (t u : TypeToken) → type_token w ≡ t → no_spec t ≡ Some u → is_some (plain_in i w) ≡ is_some (token_in i w)
plain_at i w t u e f =
    ap (λ v. is_some (on_some (checked (has_row i v) v) no_spec)) e ∙ by (has_row i t) ∙ sym (ap (λ v. is_some (checked (has_row i v) v)) e) where
      by : (b : Bool) → is_some (on_some (checked b t) no_spec) ≡ is_some (checked b t)
      by true = ap is_some f
      by false = refl

pub plain_token : (i : Image) (w : ℕ) → w < 32768 → is_some (plain_in i w) ≡ is_some (token_in i w)
plain_token i w h =
    elim (cases_lt w 16384) [
      | inl lt ↦ plain_at i w (TypeDef w) (TypeDef w) (is_def w lt) refl
      | inr le ↦ plain_at i w (TypeRef (w - 16384)) (TypeRef (w - 16384)) (is_ref w le h) refl
    ]

pub no_plain_token : (i : Image) (w : ℕ) → 32768 ≤ w → is_some (plain_in i w) ≡ false
no_plain_token i w h = ap (λ v. is_some (on_some (checked (has_row i v) v) no_spec)) (is_spec w h) ∙ by (has_row i (TypeSpec (w - 32768))) where
  by : (b : Bool) → is_some (on_some (checked b (TypeSpec (w - 32768))) no_spec) ≡ false
  by true = refl
  by false = refl

pub scope_assembly : (i : Image) (w : ℕ) → w < 16384 → is_some (scope_in i w) ≡ nat_lt w (rows_of i 0)
scope_assembly i w h = ap is_some (if_true (nat_lt w 16384) _ _ (lt-ltb w 16384 h)) ∙ checked_is (nat_lt w (rows_of i 0)) _

pub scope_inside : (i : Image) (w : ℕ) → 16384 ≤ w → is_some (scope_in i w) ≡ nat_lt (w - 16384) (rows_of i 1)
scope_inside i w h = ap is_some (if_false (nat_lt w 16384) _ _ (le-ltb w 16384 h)) ∙ checked_is (nat_lt (w - 16384) (rows_of i 1)) _

-- texts
pub utf8_yes : (b : List ℕ) → IsUtf8 b → true ≡ is_utf8 b
utf8_yes b h = sym (is_utf8-from_IsUtf8 b h)

pub utf8_no : (b : List ℕ) → (IsUtf8 b → ⊥) → false ≡ is_utf8 b
utf8_no b h = by (is_utf8 b) refl where
  by : (t : Bool) → is_utf8 b ≡ t → false ≡ t
  by true e = absurd (h (IsUtf8-from_is_utf8 b e))
  by false e = refl
