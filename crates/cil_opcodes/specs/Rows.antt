-- The table of instructions, read.
use Rattle.std.specs.Prelude.{ℕ, ◌-◌, Bool, true, false, nat_lt, if◌then◌else◌, List, Option, None, slice_get, unwrap_or}
use Rattle.cil_opcodes.specs.declared.shape.Shape.{Shape}
use Rattle.cil_opcodes.specs.declared.shape.Shape.TheVariants.{Branch, Return, Throw, Rethrow, Leave, EndFinally}
use Rattle.cil_opcodes.specs.declared.shape.Operand.{Operand}
use Rattle.cil_opcodes.specs.declared.shape.Operand.TheVariants.{Nothing, Int8, UInt8, UInt16, Int32, Int64, BranchShort, BranchLong, Switch, TypeToken, FieldToken, MethodToken, StringToken, AnyToken}
use Rattle.cil_opcodes.specs.declared.shape.Row.{Row}
use Rattle.cil_opcodes.specs.declared.table.TheConstants.{ONE_BYTE, TWO_BYTES}

-- the entry of this number, where there is one
abbrev pub entry_of : List (Option Row) → ℕ → Option Row
entry_of rows number = unwrap_or (slice_get rows number) None

-- the row of an opcode: a byte, or 0xFE00 and the byte behind FE
abbrev pub row_of : ℕ → Option Row
row_of opcode = if nat_lt opcode 0xFE00 then entry_of ONE_BYTE opcode else entry_of TWO_BYTES (opcode - 0xFE00)

-- control never goes on behind these (III.1.7.5)
abbrev pub is_transfer : Shape → Bool
is_transfer Branch = true
is_transfer Return = true
is_transfer Throw = true
is_transfer Rethrow = true
is_transfer Leave = true
is_transfer EndFinally = true
is_transfer _ = false

-- bytes of an operand; of a switch those of its count
abbrev pub width_of : Operand → ℕ
width_of Nothing = 0
width_of Int8 = 1
width_of UInt8 = 1
width_of UInt16 = 2
width_of Int32 = 4
width_of Int64 = 8
width_of BranchShort = 1
width_of BranchLong = 4
width_of Switch = 4
width_of TypeToken = 4
width_of FieldToken = 4
width_of MethodToken = 4
width_of StringToken = 4
width_of AnyToken = 4
