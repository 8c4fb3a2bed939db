-- Lines of a bound set's code, as listings have them.
use Rattle.std.specs.Prelude.{ℕ, ℤ, List, map, Option, Some, None, slice_get}
use Rattle.machine.specs.Throw.{on_some}
use Rattle.classes.specs.Code.{Operand, NoOperand, Number, OfType, OfField, OfMethod, OfText, Unresolved, CodeLine}
use Rattle.classes.specs.Code as listed
use Rattle.assemblies.specs.Rows.{RawLine}
use Rattle.image_bytes.specs.Layout.{Image}
use Rattle.image_form.specs.Codes.{target, distances_of, operand_of}
use Rattle.image_form.specs.Form.{units_of, meaning}
use Rattle.member_keys.specs.Seen.{class_seen, type_seen}
use Rattle.msspot_read.specs.Held.{held_of}
use Rattle.msspot_read.specs.Rows.{text_in}
use Rattle.tiny_code.specs.declared.instruction.CodeInstr.{CodeInstr}
use Rattle.tiny_code.specs.Numbers.{plain_seen}
use Rattle.bound_lines.specs.declared.lines.Targets.{Targets}
use Rattle.bound_lines.specs.declared.lines.BoardOperand.{BoardOperand}
use Rattle.bound_lines.specs.declared.lines.BoardOperand.TheVariants as operands
use Rattle.bound_lines.specs.declared.lines.BoardLine.{BoardLine}

-- the units of the entry of an image's pool of strings that begins at a place
abbrev pub literal_at : List Image → ℕ → ℕ → Option (List ℕ)
literal_at is file at = on_some (slice_get is file) (λ i. on_some (text_in i 0 at) units_of)

abbrev pub text_seen : Option (List ℕ) → Operand
text_seen None = NoOperand
text_seen (Some units) = OfText units

abbrev pub targets_seen : Targets → List ℤ
targets_seen t = map (target t.next) (distances_of (plain_seen t.distances))

-- a place of a pool at which no literal begins is no operand
abbrev pub operand_seen : List Image → BoardOperand → Operand
operand_seen is operands.NoOperand = NoOperand
operand_seen is (operands.Number n) = Number n
operand_seen is (operands.Targets t) = listed.Targets (targets_seen t)
operand_seen is (operands.OfType t) = OfType (type_seen t)
operand_seen is (operands.OfField f) = OfField (class_seen f)
operand_seen is (operands.OfMethod m) = OfMethod (class_seen m)
operand_seen is (operands.OfText l) = text_seen (literal_at is l.assembly l.place)
operand_seen is operands.Unresolved = Unresolved

abbrev pub line_seen : List Image → ℕ → BoardLine → CodeLine
line_seen is at l = record { at = at; shape = l.shape; operand = operand_seen is l.operand; next = l.next }

-- an instruction of an image as a line, with its tokens
abbrev pub raw_seen : Image → ℕ → CodeInstr → RawLine
raw_seen i at x = record { at = at; shape = x.row.shape; operand = operand_of (meaning (held_of i)) x.row.operand x.next (plain_seen x.number); next = x.next }
