-- How many bytes instructions have in both codes.
use Rattle.std.proofs.Common.{◌≡◌, ⊎_elim, ℕ, zero, suc, ◌+◌, ◌*◌, ◌<◌, Bool, true, false, List, map, refl, sym, ap, ◌∙◌, arith}
use Rattle.std.specs.Prelude.{ℤ, nat_lt, if◌then◌else◌}
use Rattle.std.specs.List.{range_with_len}
use Rattle.std.proofs.lemmas.Bool.{lt-ltb, le-ltb}
use Rattle.cil_opcodes.specs.declared.shape.Operand.{Operand}
use Rattle.cil_opcodes.specs.declared.shape.Operand.TheVariants as kinds
use Rattle.cil_code.specs.Instructions.{operand_at, operand_len, target_at}
use Rattle.file_tables.specs.Bytes.{u32_at}
use Rattle.machine_rename.proofs.PlaceLaws.{if_true, if_false}
use Rattle.image_form.specs.Codes.{bytes_for, opcode_size, plain_size, lie_of, size, long, short}
use Rattle.code_shrink.specs.Lines.{AreBytes}
use Rattle.code_shrink.specs.Steps.{IsStep, plain_at, instr_of, saved}
use Rattle.code_shrink.specs.declared.step.Step.{Step}
use Rattle.code_shrink.proofs.Table.{says_opcode}
use Rattle.code_shrink.proofs.Reading.{IsMade, made}

pub opcode_len : (code : List ℕ) (at : ℕ) (s : Step) (m : IsMade code at s) → AreBytes code → opcode_size m.opcode.op ≡ m.opcode.len
opcode_len code at s m bytes =
    let b = bytes at in
    ⊎_elim
    (λ one. if_true (nat_lt m.opcode.op 65024) 1 2 (lt-ltb m.opcode.op 65024 (omega (arith, one.0))) ∙ sym one.1)
    (λ two. if_false (nat_lt m.opcode.op 65024) 1 2 (le-ltb m.opcode.op 65024 (omega (arith, two.1.0))) ∙ sym two.1.1)
    m.is_opcode.bytes

four_each : (f : ℕ → ℤ) (first n : ℕ) → bytes_for 3 (map f (range_with_len first n)) ≡ 4 * n
four_each f first zero = refl
four_each f first (suc n) = let h = four_each f (first + 1) n in omega (arith, h)

two_each : (f : ℕ → ℤ) (first n : ℕ) → bytes_for 1 (map f (range_with_len first n)) ≡ 2 * n
two_each f first zero = refl
two_each f first (suc n) = let h = two_each f (first + 1) n in omega (arith, h)

long_operand : (kind : Operand) (code : List ℕ) (at start : ℕ) → plain_size long (plain_at code at kind (operand_at kind code start)) (lie_of long kind) ≡ operand_len kind code start
unfolding operand_at operand_len
long_operand kinds.Nothing code at start = refl
long_operand kinds.Int8 code at start = refl
long_operand kinds.UInt8 code at start = refl
long_operand kinds.UInt16 code at start = refl
long_operand kinds.Int32 code at start = refl
long_operand kinds.Int64 code at start = refl
long_operand kinds.BranchShort code at start = refl
long_operand kinds.BranchLong code at start = refl
long_operand kinds.Switch code at start = ap (λ (n : ℕ). 4 + n) (four_each (target_at code at) 0 (u32_at code start))
long_operand kinds.TypeToken code at start = refl
long_operand kinds.FieldToken code at start = refl
long_operand kinds.MethodToken code at start = refl
long_operand kinds.StringToken code at start = refl
long_operand kinds.AnyToken code at start = refl

short_operand : (kind : Operand) (code : List ℕ) (at start : ℕ) → plain_size short (plain_at code at kind (operand_at kind code start)) (lie_of short kind) + saved kind (operand_at kind code start) ≡ operand_len kind code start
unfolding operand_at operand_len
short_operand kinds.Nothing code at start = refl
short_operand kinds.Int8 code at start = refl
short_operand kinds.UInt8 code at start = refl
short_operand kinds.UInt16 code at start = refl
short_operand kinds.Int32 code at start = refl
short_operand kinds.Int64 code at start = refl
short_operand kinds.BranchShort code at start = refl
short_operand kinds.BranchLong code at start = refl
short_operand kinds.Switch code at start = let h = two_each (target_at code at) 0 (u32_at code start) in omega (arith, h)
short_operand kinds.TypeToken code at start = refl
short_operand kinds.FieldToken code at start = refl
short_operand kinds.MethodToken code at start = refl
short_operand kinds.StringToken code at start = refl
short_operand kinds.AnyToken code at start = refl

pub record HasSizes (code : List ℕ) (at : ℕ) (s : Step) : Type 0 where
  pub long_is : size long (instr_of code at s) ≡ s.instr.length
  pub short_is : size short (instr_of code at s) + saved s.row.operand s.instr.operand ≡ s.instr.length
  pub some : 0 < size short (instr_of code at s)

pub sizes : (code : List ℕ) (at : ℕ) (s : Step) → IsStep code at s → AreBytes code → HasSizes code at s
sizes code at s h bytes =
    let m = made code at s h in
    let start = at + m.opcode.len in
    let op : s.row.opcode ≡ m.opcode.op = says_opcode s.instr.op s.row h.listed ∙ m.op in
    let first : opcode_size s.row.opcode ≡ m.opcode.len = ap opcode_size op ∙ opcode_len code at s m bytes in
    let long_part : plain_size long (plain_at code at s.row.operand s.instr.operand) (lie_of long s.row.operand) ≡ operand_len s.row.operand code start =
    ap (λ (z : ℤ). plain_size long (plain_at code at s.row.operand z) (lie_of long s.row.operand)) m.operand ∙ long_operand s.row.operand code at start in
    let short_part : plain_size short (plain_at code at s.row.operand s.instr.operand) (lie_of short s.row.operand) + saved s.row.operand s.instr.operand ≡ operand_len s.row.operand code start =
    ap (λ (z : ℤ). plain_size short (plain_at code at s.row.operand z) (lie_of short s.row.operand) + saved s.row.operand z) m.operand ∙ short_operand s.row.operand code at start in
    record {
      long_is = omega (arith, first, long_part, m.length);
      short_is = omega (arith, first, short_part, m.length);
      some = omega (arith, first, opcode_some m.opcode.op, opcode_len code at s m bytes);
    }
  where
    opcode_some : (o : ℕ) → 0 < opcode_size o
    opcode_some o = go (nat_lt o 65024) where
      go : (b : Bool) → 0 < (if b then 1 else 2)
      go true = omega arith
      go false = omega arith
