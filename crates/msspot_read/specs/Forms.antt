-- Which entries of a pool have which form.
use Rattle.std.specs.Prelude.{ℕ, Bool, false, is_some, List, Option, Some, None}
use Rattle.std.specs.Option.{option_map}
use Rattle.std.specs.Str.{is_utf8}
use Rattle.machine.specs.Throw.{on_some}
use Rattle.image_bytes.specs.Layout.{Image}
use Rattle.assemblies.specs.Rows.{TypeToken}
use Rattle.image_form.specs.Signatures.{read_type, read_signature, read_locals, whole, is_end}
use Rattle.image_form.specs.Form.{no_spec, only_array}
use Rattle.image_form.specs.Whole.{token_in}
use Rattle.msspot_read.specs.declared.entries.Form.{Form}
use Rattle.msspot_read.specs.declared.entries.Form.TheVariants as forms

-- the token that a signature may have
abbrev pub plain_in : Image → ℕ → Option TypeToken
plain_in i w = on_some (token_in i w) no_spec

-- the bytes behind what was read
abbrev pub behind : {A : Type 0} → Option (A × List ℕ) → Option (List ℕ)
behind o = option_map (λ x. x.1) o

abbrev pub fits : Image → Form → List ℕ → Bool
fits i forms.Name entry = is_utf8 entry
fits i forms.Type entry = is_some (whole (read_type (plain_in i)) entry)
fits i forms.Array entry = is_some (on_some (whole (read_type (plain_in i)) entry) only_array)
fits i forms.Method entry = is_some (whole (read_signature (plain_in i)) entry)
fits i forms.Locals entry = is_some (whole (read_locals (plain_in i)) entry)

-- there, and it passes
abbrev pub passes : {A : Type 0} → (A → Bool) → Option A → Bool
passes test None = false
passes test (Some x) = test x

-- nothing is left
abbrev pub ends : Option (List ℕ) → Bool
ends None = false
ends (Some rest) = is_end rest
