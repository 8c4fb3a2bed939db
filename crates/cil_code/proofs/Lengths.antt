-- How many bytes operands take.
use Rattle.std.proofs.Common.{◌≡◌, ℕ, List, refl}
use Rattle.cil_opcodes.specs.declared.shape.Operand.{Operand}
use Rattle.cil_opcodes.specs.declared.shape.Operand.TheVariants.{Nothing, Int8, UInt8, UInt16, Int32, Int64, BranchShort, BranchLong, Switch, TypeToken, FieldToken, MethodToken, StringToken, AnyToken}
use Rattle.cil_opcodes.specs.Rows.{width_of}
use Rattle.cil_code.specs.Instructions.{operand_len}

pub operand_len_is_width : (operand : Operand) (code : List ℕ) (at : ℕ) → (operand ≡ Switch → ⊥) → operand_len operand code at ≡ width_of operand
unfolding operand_len
operand_len_is_width Nothing code at other = refl
operand_len_is_width Int8 code at other = refl
operand_len_is_width UInt8 code at other = refl
operand_len_is_width UInt16 code at other = refl
operand_len_is_width Int32 code at other = refl
operand_len_is_width Int64 code at other = refl
operand_len_is_width BranchShort code at other = refl
operand_len_is_width BranchLong code at other = refl
operand_len_is_width Switch code at other = absurd (other refl)
operand_len_is_width TypeToken code at other = refl
operand_len_is_width FieldToken code at other = refl
operand_len_is_width MethodToken code at other = refl
operand_len_is_width StringToken code at other = refl
operand_len_is_width AnyToken code at other = refl
