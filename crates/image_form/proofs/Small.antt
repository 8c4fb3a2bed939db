-- The smallest image: a name, and no rows.
use Rattle.std.proofs.Common.{◌≡◌, ℕ, List, [], ◌∷◌, Option, Some, None, refl}
use Rattle.std.specs.Prelude.{codes}
use Rattle.std.specs.Str.{is_utf8, chars}
use Rattle.std.specs.Char.{encode_utf8}
use Rattle.machine.specs.Throw.{on_some}
use Rattle.image_bytes.specs.Layout.{view, read_body}
use Rattle.assemblies.specs.Rows.{Assembly}
use Rattle.image_form.specs.Whole.{image_rows}

-- with the lowest byte of its size
image : ℕ → List ℕ
image size =
    77 ∷ 83 ∷ 83 ∷ 112 ∷ 111 ∷ 116 ∷ 49 ∷ 0 ∷ size ∷ 0 ∷ 0 ∷ 0 ∷ 1 ∷ 0 ∷ 0 ∷ 0 ∷ 0 ∷ 0 ∷ 0 ∷ 0 ∷ 0 ∷ 0 ∷ 255 ∷ 255
    ∷ 0 ∷ 0 ∷ 0 ∷ 0 ∷ 0 ∷ 0 ∷ 0 ∷ 0 ∷ 0 ∷ 0 ∷ 0 ∷ 0 ∷ 0 ∷ 0 ∷ 0 ∷ 0 ∷ 0 ∷ 0 ∷ 0 ∷ 0 ∷ 0 ∷ 0 ∷ 5 ∷ 0 ∷ 0 ∷ 0 ∷ 0 ∷ 0 ∷ 0 ∷ 0 ∷ 0 ∷ 0
    ∷ 3 ∷ 0 ∷ 76 ∷ 105 ∷ 98 ∷ 0 ∷ 0 ∷ 0 ∷ []

lib : Assembly
lib = record {
  name = codes "Lib";
  version = 1 ∷ 0 ∷ 0 ∷ 0 ∷ [];
  entry = None;
  assemblies = [];
  refs = [];
  field_refs = [];
  method_refs = [];
  types = [];
  fields = [];
  methods = [];
  specs = [];
}

without_rows : on_some (view (image 64)) image_rows ≡ Some lib
unfolding image lib is_utf8 chars encode_utf8 read_body
without_rows = refl

of_another_size : on_some (view (image 60)) image_rows ≡ None
unfolding image is_utf8 chars encode_utf8 read_body
of_another_size = refl
