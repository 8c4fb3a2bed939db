-- The targets of a switch, the tokens of code, and what is looked at of one instruction.
use Rattle.std.proofs.Common.{◌≡◌, ℕ, zero, suc, ◌+◌, ◌<◌, ◌^◌, List, length, map, Some, None, refl, sym, ap, ◌∙◌, subst, arith}
use Rattle.std.specs.Prelude.{ℤ, pos, ◌<ℤ◌, unsigned_abs, nat_lt, if◌then◌else◌}
use Rattle.std.specs.List.{range_with_len}
use Rattle.std.proofs.lemmas.Int.{ints}
use Rattle.cil_opcodes.specs.declared.shape.Operand.{Operand}
use Rattle.cil_opcodes.specs.declared.shape.Operand.TheVariants as kinds
use Rattle.cil_code.specs.Instructions.{HasTarget, operand_at, target_at}
use Rattle.file_tables.specs.Bytes.{u32_at}
use Rattle.code_shrink.specs.Limits.{too_many}
use Rattle.code_shrink.specs.Lines.{AreBytes}
use Rattle.code_shrink.specs.Steps.{IsStep, plain_at, past_255}
use Rattle.code_shrink.specs.declared.step.Step.{Step}
use Rattle.code_shrink.proofs.Table.{switch_is}
use Rattle.code_shrink.proofs.Reading.{made}
use Rattle.code_shrink.proofs.Copied.{four_small}

count_of : (code : List ℕ) (at : ℕ) (s : Step) → IsStep code at s → s.row.operand ≡ kinds.Switch → (n : ℕ) × (s.instr.operand ≡ pos n)
unfolding operand_at
count_of code at s h e =
    let m = made code at s h in
    (u32_at code (at + m.opcode.len), m.operand ∙ ap (λ (k : Operand). operand_at k code (at + m.opcode.len)) e)

pub has_targets : (code : List ℕ) (at : ℕ) (s : Step) → IsStep code at s → s.row.operand ≡ kinds.Switch → (k : ℕ) → k < unsigned_abs s.instr.operand → HasTarget code at k
has_targets code at s h e k lt =
    let n = count_of code at s h e in
    let count : unsigned_abs s.instr.operand ≡ n.0 = ap unsigned_abs n.1 in
    let small : k < n.0 = omega (arith, count, lt) in
    let below : pos k <ℤ pos n.0 = omega (arith, ints, small) in
    record {
      instr = s.instr;
      stands = h.stands;
      is_switch = switch_is s.instr.op s.row h.listed e;
      counted = subst (λ (z : ℤ). pos k <ℤ z) (sym n.1) below;
    }

counted : (f : ℕ → ℤ) (first n : ℕ) → length (map f (range_with_len first n)) ≡ n
counted f first zero = refl
counted f first (suc n) = let h = counted f (first + 1) n in omega (arith, h)

pub many_are : (kind : Operand) (code : List ℕ) (at : ℕ) (n : ℤ) → too_many kind (plain_at code at kind n) ≡ past_255 kind n
many_are kinds.Nothing code at n = refl
many_are kinds.Int8 code at n = refl
many_are kinds.UInt8 code at n = refl
many_are kinds.UInt16 code at n = refl
many_are kinds.Int32 code at n = refl
many_are kinds.Int64 code at n = refl
many_are kinds.BranchShort code at n = refl
many_are kinds.BranchLong code at n = refl
many_are kinds.Switch code at n = ap (λ (k : ℕ). if nat_lt 255 k then Some k else None) (counted (target_at code at) 0 (unsigned_abs n))
many_are kinds.TypeToken code at n = refl
many_are kinds.FieldToken code at n = refl
many_are kinds.MethodToken code at n = refl
many_are kinds.StringToken code at n = refl
many_are kinds.AnyToken code at n = refl

-- the number of a token, and that of a switch's targets, has four bytes
abbrev pub HasNumber : Operand → Type 0
HasNumber kinds.Switch = Unit {0}
HasNumber kinds.TypeToken = Unit {0}
HasNumber kinds.FieldToken = Unit {0}
HasNumber kinds.MethodToken = Unit {0}
HasNumber kinds.StringToken = Unit {0}
HasNumber kinds.AnyToken = Unit {0}
HasNumber _ = ⊥

number_fits : (kind : Operand) (code : List ℕ) (at : ℕ) → HasNumber kind → AreBytes code → unsigned_abs (operand_at kind code at) < 2 ^ 32
unfolding operand_at
number_fits kinds.Nothing code at t bytes = absurd t
number_fits kinds.Int8 code at t bytes = absurd t
number_fits kinds.UInt8 code at t bytes = absurd t
number_fits kinds.UInt16 code at t bytes = absurd t
number_fits kinds.Int32 code at t bytes = absurd t
number_fits kinds.Int64 code at t bytes = absurd t
number_fits kinds.BranchShort code at t bytes = absurd t
number_fits kinds.BranchLong code at t bytes = absurd t
number_fits kinds.Switch code at t bytes = four_small code at bytes
number_fits kinds.TypeToken code at t bytes = four_small code at bytes
number_fits kinds.FieldToken code at t bytes = four_small code at bytes
number_fits kinds.MethodToken code at t bytes = four_small code at bytes
number_fits kinds.StringToken code at t bytes = four_small code at bytes
number_fits kinds.AnyToken code at t bytes = four_small code at bytes

pub number_small : (code : List ℕ) (at : ℕ) (s : Step) → IsStep code at s → HasNumber s.row.operand → AreBytes code → unsigned_abs s.instr.operand < 2 ^ 32
number_small code at s h t bytes =
    let m = made code at s h in
    subst (λ (z : ℤ). unsigned_abs z < 2 ^ 32) (sym m.operand) (number_fits s.row.operand code (at + m.opcode.len) t bytes)
