-- The instruction at a place of a method's code, in a set of images. It is read at the place itself, which may also lie within an
-- instruction of the walk from the code's start: a branch of a foreign image goes where it says.
use Rattle.std.specs.Prelude.{ℕ, if◌then◌else◌, List, drop, Option, None, slice_get}
use Rattle.std.specs.Option.{option_map}
use Rattle.cil_opcodes.specs.Rows.{row_of}
use Rattle.machine.specs.Data.{Id}
use Rattle.machine.specs.Program.{Line}
use Rattle.machine.specs.Throw.{on_some}
use Rattle.classes.specs.Classes.{Classes}
use Rattle.classes.specs.Code.{CodeLine, MethodCode}
use Rattle.classes.specs.Listed as listed
use Rattle.code_rules.specs.Verdict.{operand_fits}
use Rattle.assemblies.specs.Rows.{RawLine}
use Rattle.assemblies.specs.Binding.{code_of, line_with}
use Rattle.world_rows.specs.World.{size_of}
use Rattle.image_bytes.specs.Layout.{Image}
use Rattle.image_form.specs.Codes.{short, read_instr, line_of}
use Rattle.image_form.specs.Form.{meaning}
use Rattle.msspot_read.specs.Held.{held_of}
use Rattle.msspot_read.specs.Rows as image
use Rattle.board_model.specs.Bound.{bound_classes}
use Rattle.board_program.specs.Parts.{rows_of_parts}

-- the instruction whose bytes stand whole inside the code of a method's row, from a place of it on; its opcode is an accepted one
abbrev pub raw_at : Image → ℕ → ℕ → Option RawLine
raw_at i n at = option_map (λ x. line_of (meaning (held_of i)) short at x.0) (read_instr row_of short (drop at (image.code_of i n)))

-- the same with what its operand names
abbrev pub line_at : List Image → Id → ℕ → Option CodeLine
line_at is id at =
    on_some (slice_get is id.file) (λ i. option_map (line_with (size_of (rows_of_parts is)) (rows_of_parts is) id.file) (raw_at i id.row at))

-- as the machine sees it, where its operand is there and of the kind that the instruction takes (III.3, III.4)
abbrev pub line_taken : Classes → MethodCode → CodeLine → Option Line
line_taken cs code l = if operand_fits cs l.shape l.operand then listed.line_of cs code l else None

-- what the board finds at a place of a method that has code
unfoldable pub fetch_in : List Image → Id → ℕ → Option Line
fetch_in is id at =
    on_some (code_of (size_of (rows_of_parts is)) (rows_of_parts is) id) (λ code. on_some (line_at is id at) (line_taken (bound_classes (rows_of_parts is)) code))
