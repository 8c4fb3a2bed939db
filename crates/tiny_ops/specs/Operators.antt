-- The machine's operators on values of the board.
use Rattle.std.specs.Prelude.{ℕ, ◌-◌, ◌==◌, if◌then◌else◌, Option, Some, None}
use Rattle.std.specs.Option.{option_map}
use Rattle.cil_opcodes.specs.declared.shape.Shape.{Shape}
use Rattle.cil_opcodes.specs.declared.shape.Shape.TheVariants.{Binary, Shift, Unary, Compare, Convert, ConvertChecked}
use Rattle.cil_opcodes.specs.declared.shape.Row.{Row}
use Rattle.cil_opcodes.specs.Rows.{row_of}
use Rattle.plain_types.specs.declared.elem.Elem.{Elem}
use Rattle.board_types.specs.declared.board.Known.{Known}
use Rattle.board_types.specs.declared.value.RamPlace.{RamPlace}
use Rattle.board_types.specs.declared.value.Value.{Value as BoardValue}
use Rattle.board_types.specs.declared.value.Value.TheVariants as board
use Rattle.tiny_ops.specs.declared.answer.OpEnd.{OpEnd}
use Rattle.tiny_ops.specs.declared.answer.OpEnd.TheVariants as ended
use Rattle.tiny_ops.specs.declared.answer.Pair.{Pair as BoardPair}
use Rattle.tiny_ops.specs.declared.answer.Pair.TheVariants as pairs
use Rattle.machine.specs.Data.{Cell, Spot, Value, Int, Long, Null, Object, Handle, Pointer}
use Rattle.machine.specs.Numbers.{Answer, Gives, Raises, NoCase, Pair, Ints, Longs, References, Other, of_bool, binary, shift, unary, compare, convert, convert_checked}

-- what the machine calls the places that the board's pointers lead to
pub record Leads : Type 0 where
  pub cell : Elem → Cell
  pub spot : RamPlace → Spot

-- 0 is null, and every other number is one more than the object's
abbrev pub reference : ℕ → Value
reference n = if n == 0 then Null else Object (n - 1)

abbrev pub stack_value : Leads → BoardValue → Value
stack_value l (board.Int n) = Int n
stack_value l (board.Long n) = Long n
stack_value l (board.Ref n) = reference n
stack_value l (board.Pointer at) = Pointer (l.cell at.elem) (l.spot at)
stack_value l (board.Handle f) = Handle (record { file = f.assembly; row = f.row })

abbrev pub answer_of : Leads → OpEnd → Answer
answer_of l (ended.Gives v) = Gives (stack_value l v)
answer_of l (ended.Throws known) = Raises known
answer_of l ended.NoCase = NoCase

-- the value, or the exception
abbrev pub unless : Option Known → Value → Answer
unless None v = Gives v
unless (Some known) v = Raises known

abbrev pub given : Option Value → Answer
given None = NoCase
given (Some v) = Gives v

-- an instruction of one operand, and of two, by the shape of its row: an operator of the machine
abbrev pub unary_by : Shape → Value → Answer
unary_by (Unary operator) x = given (unary operator x)
unary_by (Convert integer) x = given (convert integer x)
unary_by (ConvertChecked integer source) x = convert_checked integer source x
unary_by _ x = NoCase

abbrev pub binary_by : Shape → Value → Value → Answer
binary_by (Binary operator) x y = binary operator x y
binary_by (Shift operator) x y = given (shift operator x y)
binary_by (Compare comparison) x y = given (option_map of_bool (compare comparison x y))
binary_by _ x y = NoCase

-- an opcode that isn't in the table is none
abbrev pub by_row : Option Row → (Shape → Answer) → Answer
by_row None answer = NoCase
by_row (Some row) answer = answer row.shape

-- what the opcode's operator answers
abbrev pub unary_of : ℕ → Value → Answer
unary_of opcode x = by_row (row_of opcode) (λ shape. unary_by shape x)

abbrev pub binary_of : ℕ → Value → Value → Answer
binary_of opcode x y = by_row (row_of opcode) (λ shape. binary_by shape x y)

abbrev pub pair_in : BoardPair → Pair
pair_in (pairs.Ints x y) = Ints x y
pair_in (pairs.Longs x y) = Longs x y
pair_in (pairs.References same) = References same
pair_in pairs.Other = Other
