-- The reading of images that the deployment takes as its parameter: by the form of images.
use Rattle.std.specs.Prelude.{ℕ, Bool, false, not, nat_eq, List, Option, Some, None}
use Rattle.std.specs.Option.{option_map}
use Rattle.image_bytes.specs.Layout.{Image}
use Rattle.assemblies.specs.Rows.{Assembly}
use Rattle.image_form.specs.Whole.{seen}
use Rattle.msspot_read.specs.Rows.{size_of}
use Rattle.deploy_model.specs.Banks.{Format}

-- an image that stands names the row of its entry method, or none
abbrev pub has_entry : Option (Image × Assembly) → Bool
has_entry None = false
has_entry (Some x) = not (nat_eq x.0.entry 65535)

-- the size of the image that stands at the front of some bytes, and whether it has an entry
unfoldable pub image_size : List ℕ → Option ℕ
image_size bytes = option_map (λ (x : Image × Assembly). size_of x.0) (seen bytes)

unfoldable pub image_entry : List ℕ → Bool
image_entry bytes = has_entry (seen bytes)

abbrev pub FORMAT : Format
FORMAT = record { image = image_size; entry = image_entry }
