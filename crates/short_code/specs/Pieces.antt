-- The instructions of a file's code with their lengths in the file and in the image.
use Rattle.std.specs.Prelude.{List, map}
use Rattle.machine_rename.specs.Places.{Piece}
use Rattle.image_form.specs.Codes.{Instr, size, long, short}

abbrev pub piece : Instr → Piece Instr
piece i = record { short = size short i; long = size long i; what = i }

abbrev pub pieces : List Instr → List (Piece Instr)
pieces is = map piece is
