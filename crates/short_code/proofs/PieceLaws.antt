-- No instruction is longer in the image than in the file.
use Rattle.std.proofs.Common.{ℕ, ◌<◌, ◌≤◌, Bool, true, false, List, [], ◌∷◌, arith}
use Rattle.std.specs.Prelude.{ℤ, nat_lt, if◌then◌else◌}
use Rattle.std.specs.Int.{w16, w32}
use Rattle.cil_opcodes.specs.declared.shape.Operand.{Operand}
use Rattle.cil_opcodes.specs.declared.shape.Operand.TheVariants as kinds
use Rattle.machine_rename.specs.Places.{AreShorter}
use Rattle.image_form.specs.Codes.{Plain, Bare, Signed, Unsigned, Distances, Instr, behind_first, bytes_for, opcode_size, plain_size, lie_of, long, short}
use Rattle.short_code.specs.Pieces.{pieces}

fewer_bytes : (to : List ℤ) → bytes_for (behind_first w16) to ≤ bytes_for (behind_first w32) to
fewer_bytes [] = omega arith
fewer_bytes (z ∷ zs) = omega (arith, fewer_bytes zs)

switch_shorter : (p : Plain) → plain_size short p (lie_of short kinds.Switch) ≤ plain_size long p (lie_of long kinds.Switch)
switch_shorter Bare = omega arith
switch_shorter (Signed z) = omega arith
switch_shorter (Unsigned n) = omega arith
switch_shorter (Distances to) = omega (arith, fewer_bytes to)

operand_shorter : (k : Operand) (p : Plain) → plain_size short p (lie_of short k) ≤ plain_size long p (lie_of long k)
operand_shorter kinds.Nothing p = omega arith
operand_shorter kinds.Int8 p = omega arith
operand_shorter kinds.UInt8 p = omega arith
operand_shorter kinds.UInt16 p = omega arith
operand_shorter kinds.Int32 p = omega arith
operand_shorter kinds.Int64 p = omega arith
operand_shorter kinds.BranchShort p = omega arith
operand_shorter kinds.BranchLong p = omega arith
operand_shorter kinds.Switch p = switch_shorter p
operand_shorter kinds.TypeToken p = omega arith
operand_shorter kinds.FieldToken p = omega arith
operand_shorter kinds.MethodToken p = omega arith
operand_shorter kinds.StringToken p = omega arith
operand_shorter kinds.AnyToken p = omega arith

some_byte : (o : ℕ) → 0 < opcode_size o
some_byte o = go (nat_lt o 65024)
  where
    go : (b : Bool) → 0 < (if b then 1 else 2)
    go true = omega arith
    go false = omega arith

pub are_shorter : (is : List Instr) → AreShorter (pieces is)
are_shorter [] = tt
are_shorter (i ∷ is) = (omega (arith, some_byte i.row.opcode), omega (arith, operand_shorter i.row.operand i.operand), are_shorter is)
