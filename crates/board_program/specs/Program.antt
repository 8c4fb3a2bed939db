-- The program of a bound set, as the board runs it.
use Rattle.std.specs.Prelude.{List}
use Rattle.machine.specs.Program.{Program}
use Rattle.machine_rename.specs.Runs.{fetching}
use Rattle.image_bytes.specs.Layout.{Image}
use Rattle.board_model.specs.Bound.{bound_program}
use Rattle.board_program.specs.Parts.{rows_of_parts}
use Rattle.board_program.specs.Code.{fetch_in}

-- the one program of the rows, whose instructions are read where the machine stands
abbrev pub board_program : List Image → Program
board_program is = fetching (bound_program (rows_of_parts is)) (fetch_in is)
