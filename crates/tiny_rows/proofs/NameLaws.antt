-- Names and scopes of an image.
use Rattle.std.proofs.Common.{◌≡◌, ℕ, ◌-◌, ◌<◌, ◌≤◌, Bool, true, false, List, Option, Some, None, refl, sym, ap, ◌∙◌, subst}
use Rattle.std.specs.Prelude.{IsSome, nat_lt, if◌then◌else◌}
use Rattle.std.specs.Str.{is_utf8}
use Rattle.std.proofs.lemmas.Bool.{lt-ltb, le-ltb}
use Rattle.machine.specs.Throw.{on_some}
use Rattle.image_bytes.specs.Layout.{Image, rows_of}
use Rattle.image_form.specs.Form.{checked, name_text}
use Rattle.image_form.specs.Whole.{scope_in}
use Rattle.assemblies.specs.Rows.{Scope, OfAssembly, Inside}
use Rattle.msspot_read.specs.Rows.{text_in}
use Rattle.tiny_rows.specs.Rows.{name_in}

pub text_there : (i : Image) (at : ℕ) → IsSome (name_in i at) → IsSome (text_in i 0 at)
text_there i at = go (text_in i 0 at)
  where
    go : (o : Option (List ℕ)) → IsSome (on_some o name_text) → IsSome o
    go None h = h
    go (Some t) h = refl

pub text_named : (i : Image) (at : ℕ) (t : List ℕ) → IsSome (name_in i at) → Some t ≡ text_in i 0 at → Some t ≡ name_in i at
text_named i at t h e = go (is_utf8 t) (subst IsSome (sym is) h) ∙ is
  where
    is : on_some (Some t) name_text ≡ name_in i at
    is = ap (λ o. on_some o name_text) e

    go : (b : Bool) → IsSome (checked b t) → Some t ≡ checked b t
    go true h = refl
    go false h = absurd (cc h)

scope_checked : (b : Bool) (s : Scope) → IsSome (checked b s) → Some s ≡ checked b s
scope_checked true s h = refl
scope_checked false s h = absurd (cc h)

pub scope_below : (i : Image) (w : ℕ) → w < 16384 → IsSome (scope_in i w) → Some (OfAssembly w) ≡ scope_in i w
scope_below i w h some = scope_checked (nat_lt w (rows_of i 0)) (OfAssembly w) (subst IsSome is some) ∙ sym is
  where
    is : scope_in i w ≡ checked (nat_lt w (rows_of i 0)) (OfAssembly w)
    is = ap (λ b. if b then checked (nat_lt w (rows_of i 0)) (OfAssembly w) else checked (nat_lt (w - 16384) (rows_of i 1)) (Inside (w - 16384))) (lt-ltb w 16384 h)

pub scope_above : (i : Image) (w : ℕ) → 16384 ≤ w → IsSome (scope_in i w) → Some (Inside (w - 16384)) ≡ scope_in i w
scope_above i w h some = scope_checked (nat_lt (w - 16384) (rows_of i 1)) (Inside (w - 16384)) (subst IsSome is some) ∙ sym is
  where
    is : scope_in i w ≡ checked (nat_lt (w - 16384) (rows_of i 1)) (Inside (w - 16384))
    is = ap (λ b. if b then checked (nat_lt w (rows_of i 0)) (OfAssembly w) else checked (nat_lt (w - 16384) (rows_of i 1)) (Inside (w - 16384))) (le-ltb w 16384 h)
