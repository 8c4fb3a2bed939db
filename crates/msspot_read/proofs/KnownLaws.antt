-- What the marks of entries say of an image's rows.
use Rattle.std.proofs.Common.{◌≡◌, ℕ, Bool, true, false, List, [], ◌∷◌, Option, Some, None, refl, sym, ap, ◌∙◌}
use Rattle.std.specs.Prelude.{is_some, unwrap_or, nat_eq, if◌then◌else◌}
use Rattle.std.specs.Str.{is_utf8}
use Rattle.machine.specs.Throw.{on_some}
use Rattle.image_bytes.specs.Layout.{Image}
use Rattle.image_pools.specs.Pools.{text_at}
use Rattle.image_form.specs.Signatures.{whole, read_type, read_signature, read_locals}
use Rattle.image_form.specs.Form.{checked, name_text, only_array, name_at, raw_at, signature_at, locals_at, spec_at}
use Rattle.image_form.specs.Whole.{bytes_at, texts_in, rows_with, image_rows}
use Rattle.msspot_read.specs.declared.entries.Form.TheVariants as forms
use Rattle.msspot_read.specs.Rows.{text_in}
use Rattle.msspot_read.specs.Forms.{plain_in, fits, passes}
use Rattle.msspot_read.specs.Marked.{HasTexts}
use Rattle.msspot_read.specs.Held.{texts, held_of}

-- ---- pools that don't fall into entries

pub no_strings : (i : Image) → texts_in (bytes_at i 0) ≡ None → image_rows i ≡ None
no_strings i e = ap (λ o. on_some o (λ strings. on_some (texts_in (bytes_at i 1)) (rows_with i strings))) e

pub no_signatures : (i : Image) → texts_in (bytes_at i 1) ≡ None → image_rows i ≡ None
no_signatures i e = by (texts_in (bytes_at i 0)) where
  by : (o : Option (List (List ℕ))) → on_some o (λ strings. on_some (texts_in (bytes_at i 1)) (rows_with i strings)) ≡ None
  by None = refl
  by (Some strings) = ap (λ o. on_some o (rows_with i strings)) e

-- ---- entries by their forms

known_at : (o : Option (List (List ℕ))) (at : ℕ) → is_some o ≡ true → on_some o (λ ts. text_at ts at) ≡ text_at (unwrap_or o []) at
known_at None at h = absurd (cc h)
known_at (Some ts) at h = refl

checked_is : {A : Type 0} (b : Bool) (x : A) → b ≡ is_some (checked b x)
checked_is true x = refl
checked_is false x = refl

name_of : (i : Image) (o : Option (List ℕ)) → passes (fits i forms.Name) o ≡ is_some (on_some o name_text)
name_of i None = refl
name_of i (Some b) = checked_is (is_utf8 b) b

type_of : (i : Image) (o : Option (List ℕ)) → passes (fits i forms.Type) o ≡ is_some (on_some o (whole (read_type (plain_in i))))
type_of i None = refl
type_of i (Some b) = refl

array_of : (i : Image) (o : Option (List ℕ)) → passes (fits i forms.Array) o ≡ is_some (on_some (on_some o (whole (read_type (plain_in i)))) only_array)
array_of i None = refl
array_of i (Some b) = refl

method_of : (i : Image) (o : Option (List ℕ)) → passes (fits i forms.Method) o ≡ is_some (on_some o (whole (read_signature (plain_in i))))
method_of i None = refl
method_of i (Some b) = refl

locals_of : (i : Image) (o : Option (List ℕ)) → passes (fits i forms.Locals) o ≡ is_some (on_some o (whole (read_locals (plain_in i))))
locals_of i None = refl
locals_of i (Some b) = refl

module _ (i : Image) (has : HasTexts i) where
  pub name_known : (at : ℕ) → passes (fits i forms.Name) (text_in i 0 at) ≡ is_some (name_at (held_of i) at)
  name_known at = ap (passes (fits i forms.Name)) (known_at (texts_in (bytes_at i 0)) at has.0) ∙ name_of i (text_at (texts i 0) at)

  pub type_known : (at : ℕ) → passes (fits i forms.Type) (text_in i 1 at) ≡ is_some (raw_at (held_of i) at)
  type_known at = ap (passes (fits i forms.Type)) (known_at (texts_in (bytes_at i 1)) at has.1) ∙ type_of i (text_at (texts i 1) at)

  pub array_known : (at : ℕ) → passes (fits i forms.Array) (text_in i 1 at) ≡ is_some (spec_at (held_of i) (at ∷ []))
  array_known at = ap (passes (fits i forms.Array)) (known_at (texts_in (bytes_at i 1)) at has.1) ∙ array_of i (text_at (texts i 1) at)

  pub method_known : (at : ℕ) → passes (fits i forms.Method) (text_in i 1 at) ≡ is_some (signature_at (held_of i) at)
  method_known at = ap (passes (fits i forms.Method)) (known_at (texts_in (bytes_at i 1)) at has.1) ∙ method_of i (text_at (texts i 1) at)

  locals_read : (at : ℕ) → passes (fits i forms.Locals) (text_in i 1 at) ≡ is_some (on_some (text_at (texts i 1) at) (whole (read_locals (plain_in i))))
  locals_read at = ap (passes (fits i forms.Locals)) (known_at (texts_in (bytes_at i 1)) at has.1) ∙ locals_of i (text_at (texts i 1) at)

  pub locals_known : (at : ℕ) → nat_eq at 65535 ≡ false → passes (fits i forms.Locals) (text_in i 1 at) ≡ is_some (locals_at (held_of i) at)
  locals_known at other = locals_read at ∙ sym (ap (λ (t : Bool). is_some (if t then Some [] else on_some (text_at (texts i 1) at) (whole (read_locals (plain_in i))))) other)

  pub no_locals : (at : ℕ) → nat_eq at 65535 ≡ true → true ≡ is_some (locals_at (held_of i) at)
  no_locals at none = sym (ap (λ (t : Bool). is_some (if t then Some [] else on_some (text_at (texts i 1) at) (whole (read_locals (plain_in i))))) none)
