-- Instructions in a list of bytes, by the table of instructions (ECMA-335 III.1.2, III.1.9).
use Rattle.std.specs.Prelude.{◌≡◌, ℕ, ◌+◌, ◌*◌, ◌==◌, nat_le, if◌then◌else◌, List, length, slice_index, Option, Some, None, Result, Ok, Err, ℤ, pos, ◌<ℤ◌}
use Rattle.std.specs.Option.{ok_or}
use Rattle.std.specs.Int.{w8, w32, w64, cast_signed}
use Rattle.cil_opcodes.specs.declared.shape.Operand.{Operand}
use Rattle.cil_opcodes.specs.declared.shape.Operand.TheVariants.{Nothing, Int8, UInt8, UInt16, Int32, Int64, BranchShort, BranchLong, Switch, TypeToken, FieldToken, MethodToken, StringToken, AnyToken}
use Rattle.cil_opcodes.specs.Rows.{row_of, width_of}
use Rattle.file_tables.specs.Bytes.{u16_at, u32_at, u64_at}
use Rattle.cil_code.specs.declared.fault.CodeFault.{CodeFault}
use Rattle.cil_code.specs.declared.instructions.Instr.{Instr}
use Rattle.cil_code.specs.declared.instructions.Opcode.{Opcode}
use Rattle.cil_code.specs.declared.instructions.TheConstants.{TWO_BYTES, SWITCH}
use Rattle.cil_code.specs.declared.fault.TheConstants.{NO_SUCH_OPCODE, PAST_THE_END}

infixl 10 ◌>>=◌
abbrev pub ◌>>=◌ : {A B : Type 0} → Result A CodeFault → (A → Result B CodeFault) → Result B CodeFault
(Ok x) >>= f = f x
(Err fault) >>= f = Err fault

abbrev pub fault_at : ℕ → ℕ → CodeFault
fault_at at rule = record { rule = rule; offset = at }

-- the opcode of FE and the byte at an offset
abbrev pub second_byte : List ℕ → ℕ → Option Opcode
second_byte code at = if nat_le (length code) at then None else Some (record { op = 0xFE00 + slice_index code at; len = 2 })

-- The opcode at an offset: a byte, or 0xFE00 and the byte behind FE. None where the code ends before.
unfoldable pub opcode_at : List ℕ → ℕ → Option Opcode
opcode_at code at =
    if nat_le (length code) at then None
    else if slice_index code at == TWO_BYTES then second_byte code (at + 1)
    else Some (record { op = slice_index code at; len = 1 })

-- the number that an operand at an offset spells, lowest byte first; of a switch the number of its targets
unfoldable pub operand_at : Operand → List ℕ → ℕ → ℤ
operand_at Nothing code at = pos 0
operand_at Int8 code at = cast_signed w8 (slice_index code at)
operand_at UInt8 code at = pos (slice_index code at)
operand_at UInt16 code at = pos (u16_at code at)
operand_at Int32 code at = cast_signed w32 (u32_at code at)
operand_at Int64 code at = cast_signed w64 (u64_at code at)
operand_at BranchShort code at = cast_signed w8 (slice_index code at)
operand_at BranchLong code at = cast_signed w32 (u32_at code at)
operand_at Switch code at = pos (u32_at code at)
operand_at TypeToken code at = pos (u32_at code at)
operand_at FieldToken code at = pos (u32_at code at)
operand_at MethodToken code at = pos (u32_at code at)
operand_at StringToken code at = pos (u32_at code at)
operand_at AnyToken code at = pos (u32_at code at)

-- how many bytes stand behind an opcode: the operand's, and four for each target of a switch
unfoldable pub operand_len : Operand → List ℕ → ℕ → ℕ
operand_len Switch code at = 4 + 4 * u32_at code at
operand_len operand code at = width_of operand

-- the same, where the code has all of them
unfoldable pub whole_len : Operand → List ℕ → ℕ → Option ℕ
whole_len operand code at = if nat_le (at + operand_len operand code at) (length code) then Some (operand_len operand code at) else None

-- The instruction at an offset. An opcode that the table hasn't is told also where its operand is cut.
unfoldable pub instruction_at : List ℕ → ℕ → Result Instr CodeFault
instruction_at code at = do
  opcode ← ok_or (opcode_at code at) (fault_at at PAST_THE_END)
  row ← ok_or (row_of opcode.op) (fault_at at NO_SUCH_OPCODE)
  len ← ok_or (whole_len row.operand code (at + opcode.len)) (fault_at at PAST_THE_END)
  Ok (record { op = opcode.op; operand = operand_at row.operand code (at + opcode.len); length = opcode.len + len })

-- a switch stands at an offset and has a target of this number, counted from 0
pub record HasTarget (code : List ℕ) (at k : ℕ) : Type 0 where
  pub instr : Instr
  pub stands : instruction_at code at ≡ Ok instr
  pub is_switch : instr.op ≡ SWITCH
  pub counted : pos k <ℤ instr.operand

-- the distance of a switch's target from the end of the instruction
unfoldable pub target_at : List ℕ → ℕ → ℕ → ℤ
target_at code at k = cast_signed w32 (u32_at code (at + 5 + 4 * k))
