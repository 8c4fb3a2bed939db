-- Marks, one for each offset of a pool.
use Rattle.std.specs.Prelude.{◌≡◌, ℕ, ◌/◌, ◌%◌, Bool, true, nat_eq, is_some, slice_index, List}
use Rattle.std.specs.Int.{bit_at}
use Rattle.image_bytes.specs.Layout.{Image}
use Rattle.image_form.specs.Whole.{bytes_at, texts_in}
use Rattle.msspot_read.specs.declared.entries.Form.{Form}
use Rattle.msspot_read.specs.Rows.{text_in}
use Rattle.msspot_read.specs.Forms.{fits, passes}

abbrev pub is_marked : List ℕ → ℕ → Bool
is_marked marks at = nat_eq (bit_at (slice_index marks (at / 64)) (at % 64)) 1

-- marked are the entries of a pool that have the form
abbrev pub MarksForm : Image → ℕ → Form → List ℕ → Type 0
MarksForm i k form marks = (at : ℕ) → is_marked marks at ≡ passes (fits i form) (text_in i k at)

-- both pools of entries fall into entries
abbrev pub HasTexts : Image → Type 0
HasTexts i = (is_some (texts_in (bytes_at i 0)) ≡ true) × (is_some (texts_in (bytes_at i 1)) ≡ true)
