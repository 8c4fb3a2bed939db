-- One instruction of a file's code, as it is walked over.
use Rattle.std.specs.Prelude.{◌≡◌, ℕ, ℤ, ◌+◌, ◌*◌, unsigned_abs, nat_lt, if◌then◌else◌, List, map, Option, Some, None, Ok}
use Rattle.std.specs.List.{range_with_len}
use Rattle.cil_opcodes.specs.declared.shape.Operand.{Operand}
use Rattle.cil_opcodes.specs.declared.shape.Operand.TheVariants as kinds
use Rattle.cil_opcodes.specs.Rows.{row_of}
use Rattle.cil_code.specs.Instructions.{instruction_at, target_at}
use Rattle.image_form.specs.Codes.{Plain, Bare, Signed, Unsigned, Distances, Instr}
use Rattle.code_shrink.specs.declared.step.Step.{Step}

-- it stands at a place of code, and has that row of the table
pub record IsStep (code : List ℕ) (at : ℕ) (s : Step) : Type 0 where
  pub stands : instruction_at code at ≡ Ok s.instr
  pub listed : row_of s.instr.op ≡ Some s.row

-- its operand, from its number; a switch has its distances behind it
abbrev pub plain_at : List ℕ → ℕ → Operand → ℤ → Plain
plain_at code at kinds.Nothing n = Bare
plain_at code at kinds.Int8 n = Signed n
plain_at code at kinds.UInt8 n = Unsigned (unsigned_abs n)
plain_at code at kinds.UInt16 n = Unsigned (unsigned_abs n)
plain_at code at kinds.Int32 n = Signed n
plain_at code at kinds.Int64 n = Signed n
plain_at code at kinds.BranchShort n = Signed n
plain_at code at kinds.BranchLong n = Signed n
plain_at code at kinds.Switch n = Distances (map (target_at code at) (range_with_len 0 (unsigned_abs n)))
plain_at code at kinds.TypeToken n = Unsigned (unsigned_abs n)
plain_at code at kinds.FieldToken n = Unsigned (unsigned_abs n)
plain_at code at kinds.MethodToken n = Unsigned (unsigned_abs n)
plain_at code at kinds.StringToken n = Unsigned (unsigned_abs n)
plain_at code at kinds.AnyToken n = Unsigned (unsigned_abs n)

-- the instruction
abbrev pub instr_of : List ℕ → ℕ → Step → Instr
instr_of code at s = record { row = s.row; operand = plain_at code at s.row.operand s.instr.operand }

-- how many bytes fewer it has in the image
abbrev pub saved : Operand → ℤ → ℕ
saved kinds.BranchLong n = 2
saved kinds.Switch n = 3 + 2 * unsigned_abs n
saved kinds.TypeToken n = 2
saved kinds.FieldToken n = 2
saved kinds.MethodToken n = 2
saved kinds.StringToken n = 2
saved kinds.AnyToken n = 2
saved _ n = 0

-- the number of its targets, where it is a switch that has too many
abbrev pub past_255 : Operand → ℤ → Option ℕ
past_255 kinds.Switch n = if nat_lt 255 (unsigned_abs n) then Some (unsigned_abs n) else None
past_255 _ n = None
