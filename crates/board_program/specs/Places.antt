-- Places of code in the flash.
use Rattle.std.specs.Prelude.{ℕ, ◌+◌, ◌%◌, ◌^◌, is_some, List, slice_get, unwrap_or}
use Rattle.std.specs.List.{position}
use Rattle.std.specs.Option.{option_map}
use Rattle.machine.specs.Trace.{CodePlace}
use Rattle.assemblies.specs.Rows.{Assembly}
use Rattle.msspot_read.specs.Rows.{code_place}
use Rattle.deploy_model.specs.Banks.{Image}
use Rattle.board_model.specs.Bound.{set_rows}
use Rattle.board_program.specs.Parts.{parts_in}

-- where a set's image of a number begins
abbrev pub image_at : List Image → ℕ → ℕ
image_at images assembly = unwrap_or (option_map (λ (x : Image). x.at) (slice_get images assembly)) 0

-- where in its image the code of a method begins: at 0 where it has none
abbrev pub code_at : List Image → ℕ → ℕ → ℕ
code_at images assembly row = unwrap_or (option_map (λ (x : Image). code_place (parts_in x) row) (slice_get images assembly)) 0

-- a place in a method's code. A branch to before the code leads past its end, to the place that is computed modulo 2 ^ 32
abbrev pub flash_place : List Image → CodePlace → ℕ
flash_place images c = (image_at images c.method.file + code_at images c.method.file c.method.row + c.place) % 2 ^ 32

-- the image with the entry method, of which a set has just one
abbrev pub entry_image : List Image → ℕ
entry_image images = unwrap_or (position (λ (p : Assembly). is_some p.entry) (set_rows images)) 0
