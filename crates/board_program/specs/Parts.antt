-- The images of a found set by their parts, and their rows.
use Rattle.std.specs.Prelude.{List, [], map, unwrap_or}
use Rattle.std.specs.Option.{option_map}
use Rattle.image_bytes.specs.Layout as layout
use Rattle.image_form.specs.Whole.{seen}
use Rattle.assemblies.specs.Rows.{Assembly}
use Rattle.tiny_rows.specs.Rows.{rows_seen}
use Rattle.deploy_model.specs.Banks.{Image}

abbrev pub NO_PARTS : layout.Image
NO_PARTS = record { version = []; name = 0; entry = 65535; tables = []; pools = [] }

-- what stands in an image's bytes
abbrev pub parts_in : Image → layout.Image
parts_in x = unwrap_or (option_map (λ s. s.0) (seen x.bytes)) NO_PARTS

abbrev pub set_parts : List Image → List layout.Image
set_parts images = map parts_in images

-- the images as assemblies
abbrev pub rows_of_parts : List layout.Image → List Assembly
rows_of_parts is = map rows_seen is
