-- The least image, byte for byte: an assembly `Lib` 1.0.0.0 without rows.
use Rattle.std.proofs.Common.{◌≡◌, ℕ, List, [], ◌∷◌, ◌++◌, None, refl}
use Rattle.std.specs.Prelude.{codes, replicate}
use Rattle.assemblies.specs.Rows.{Assembly}
use Rattle.image_bytes.specs.Layout.{onto, body_onto}
use Rattle.assemblies.specs.Chosen.{Choice}
use Rattle.converted.specs.Images.{image_of}

abbrev lib : Assembly
lib =
    record {
      name = codes "Lib";
      version = 1 ∷ 0 ∷ 0 ∷ 0 ∷ [];
      entry = None;
      assemblies = [];
      refs = [];
      field_refs = [];
      method_refs = [];
      types = [];
      fields = [];
      methods = [];
      specs = [];
    }

abbrev bytes : List ℕ
bytes =
    0x4D ∷ 0x53 ∷ 0x53 ∷ 0x70 ∷ 0x6F ∷ 0x74 ∷ 0x31 ∷ 0x00 ∷ 0x40 ∷ 0x00 ∷ 0x00 ∷ 0x00 ∷ 0x01 ∷ 0x00 ∷ 0x00 ∷ 0x00 ∷ 0x00 ∷ 0x00 ∷ 0x00 ∷ 0x00 ∷ 0x00 ∷ 0x00 ∷ 0xFF ∷ 0xFF ∷ []
    ++ (replicate 22 0 ++ (0x05 ∷ 0x00 ∷ 0x00 ∷ 0x00 ∷ 0x00 ∷ 0x00 ∷ 0x00 ∷ 0x00 ∷ 0x00 ∷ 0x00 ∷ 0x03 ∷ 0x00 ∷ 0x4C ∷ 0x69 ∷ 0x62 ∷ 0x00 ∷ 0x00 ∷ 0x00 ∷ []))

-- whatever is chosen
spelt_lib : (k : Choice) → onto (image_of k lib []) [] ≡ bytes
unfolding body_onto
spelt_lib k = refl
