-- Opcodes, and operands that stay as they are, have the same bytes in both codes.
use Rattle.std.proofs.Common.{◌≡◌, ⊎_elim, ℕ, zero, suc, ◌+◌, ◌-◌, ◌*◌, ◌/◌, ◌%◌, ◌^◌, ◌<◌, ◌≤◌, List, [], ◌∷◌, length, take, drop, refl, sym, ap, ◌∙◌, arith}
use Rattle.std.specs.Prelude.{nat_lt, slice_index}
use Rattle.std.specs.Int.{Width, w8, w32, w64, cast_signed}
use mir.Val.{bits}
use Rattle.std.proofs.lemmas.Int.{of_z-to_z}
use Rattle.std.proofs.lemmas.Bool.{lt-ltb, le-ltb}
use Rattle.cil_opcodes.specs.declared.shape.Operand.{Operand}
use Rattle.cil_opcodes.specs.declared.shape.Operand.TheVariants as kinds
use Rattle.cil_code.specs.Instructions.{operand_at, operand_len}
use Rattle.file_tables.specs.Bytes.{u16_at, u32_at, u64_at}
use Rattle.machine_rename.proofs.PlaceLaws.{if_true, if_false}
use Rattle.image_form.specs.Codes.{number_onto, behind_first, signed_onto, lie_of, plain_onto, opcode_onto, short}
use Rattle.code_shrink.specs.Steps.{plain_at}
use Rattle.code_shrink.specs.declared.step.Step.{Step}
use Rattle.code_shrink.proofs.Reading.{num, front, num_two, num_four, num_eight, IsMade}
use Rattle.code_shrink.specs.Lines.{AreBytes}

low : (b r : ℕ) → b < 256 → (b + 256 * r) % 256 ≡ b
low b r lt = omega arith

high : (b r : ℕ) → b < 256 → (b + 256 * r) / 256 ≡ r
high b r lt = omega arith

number_copied : (k : ℕ) (code : List ℕ) (at : ℕ) → AreBytes code → at + suc k ≤ length code → number_onto k (num k code at) [] ≡ take (suc k) (drop at code)
unfolding num
number_copied zero code at bytes le = ap (take 1) (sym (front code at (omega arith)))
number_copied (suc k) code at bytes le =
    let b = slice_index code at in
    let r = num k code (at + 1) in
    let small = bytes at in
    let first : b < 256 = omega arith in
    ap (λ (x : ℕ). x ∷ number_onto k ((b + 256 * r) / 256) []) (low b r first)
    ∙ ap (λ (x : ℕ). b ∷ number_onto k x []) (high b r first)
    ∙ ap (λ (l : List ℕ). b ∷ l) (number_copied k code (at + 1) bytes (omega arith))
    ∙ ap (take (suc (suc k))) (sym (front code at (omega arith)))

one_small : (code : List ℕ) (at : ℕ) → AreBytes code → slice_index code at < 2 ^ 8
one_small code at bytes = bytes at

pub four_small : (code : List ℕ) (at : ℕ) → AreBytes code → u32_at code at < 2 ^ 32
unfolding u32_at u16_at
four_small code at bytes = omega (arith, bytes at, bytes (at + 1), bytes (at + 2), bytes (at + 2 + 1))

pub eight_small : (code : List ℕ) (at : ℕ) → AreBytes code → u64_at code at < 2 ^ 64
unfolding u64_at
eight_small code at bytes = omega (arith, four_small code at bytes, four_small code (at + 4) bytes)

signed_copied : (w : Width) (code : List ℕ) (at n : ℕ) → AreBytes code → at + suc (behind_first w) ≤ length code → num (behind_first w) code at ≡ n → n < 2 ^ bits w → signed_onto w (cast_signed w n) [] ≡ take (suc (behind_first w)) (drop at code)
signed_copied w code at n bytes le e small =
    ap (λ (m : ℕ). number_onto (behind_first w) m []) (of_z-to_z w n small ∙ sym e)
    ∙ number_copied (behind_first w) code at bytes le

unsigned_copied : (k : ℕ) (code : List ℕ) (at n : ℕ) → AreBytes code → at + suc k ≤ length code → num k code at ≡ n → number_onto k n [] ≡ take (suc k) (drop at code)
unsigned_copied k code at n bytes le e = ap (λ (m : ℕ). number_onto k m []) (sym e) ∙ number_copied k code at bytes le

-- operands that are neither tokens nor distances
abbrev pub Stays : Operand → Type 0
Stays kinds.Nothing = Unit {0}
Stays kinds.Int8 = Unit {0}
Stays kinds.UInt8 = Unit {0}
Stays kinds.UInt16 = Unit {0}
Stays kinds.Int32 = Unit {0}
Stays kinds.Int64 = Unit {0}
Stays _ = ⊥

pub operand_copied : (kind : Operand) (code : List ℕ) (at start : ℕ) → Stays kind → AreBytes code → start + operand_len kind code start ≤ length code
    → plain_onto short (lie_of short kind) (plain_at code at kind (operand_at kind code start)) [] ≡ take (operand_len kind code start) (drop start code)
unfolding operand_len operand_at
operand_copied kinds.Nothing code at start h bytes le = refl
operand_copied kinds.Int8 code at start h bytes le = signed_copied w8 code start (slice_index code start) bytes le (unfold num in refl) (bytes start)
operand_copied kinds.UInt8 code at start h bytes le = unsigned_copied 0 code start (slice_index code start) bytes le (unfold num in refl)
operand_copied kinds.UInt16 code at start h bytes le = unsigned_copied 1 code start (u16_at code start) bytes le (num_two code start)
operand_copied kinds.Int32 code at start h bytes le = signed_copied w32 code start (u32_at code start) bytes le (num_four code start) (four_small code start bytes)
operand_copied kinds.Int64 code at start h bytes le = signed_copied w64 code start (u64_at code start) bytes le (num_eight code start) (eight_small code start bytes)
operand_copied kinds.BranchShort code at start h bytes le = absurd h
operand_copied kinds.BranchLong code at start h bytes le = absurd h
operand_copied kinds.Switch code at start h bytes le = absurd h
operand_copied kinds.TypeToken code at start h bytes le = absurd h
operand_copied kinds.FieldToken code at start h bytes le = absurd h
operand_copied kinds.MethodToken code at start h bytes le = absurd h
operand_copied kinds.StringToken code at start h bytes le = absurd h
operand_copied kinds.AnyToken code at start h bytes le = absurd h

pub opcode_copied : (code : List ℕ) (at : ℕ) (s : Step) (m : IsMade code at s) → AreBytes code → at + m.opcode.len ≤ length code → opcode_onto m.opcode.op [] ≡ take m.opcode.len (drop at code)
opcode_copied code at s m bytes le =
    let b = bytes at in
    ⊎_elim
    (λ one.
    let op = one.0 in
    let len = one.1 in
    if_true (nat_lt m.opcode.op 65024) (m.opcode.op ∷ []) (254 ∷ (m.opcode.op - 65024) ∷ []) (lt-ltb m.opcode.op 65024 (omega (arith, op)))
    ∙ ap (λ (n : ℕ). n ∷ []) op
    ∙ ap (take 1) (sym (front code at (omega (arith, len))))
    ∙ ap (λ (n : ℕ). take n (drop at code)) (sym len))
    (λ two.
    let op = two.1.0 in
    let len = two.1.1 in
    let back : m.opcode.op - 65024 ≡ slice_index code (at + 1) = omega (arith, op) in
    if_false (nat_lt m.opcode.op 65024) (m.opcode.op ∷ []) (254 ∷ (m.opcode.op - 65024) ∷ []) (le-ltb m.opcode.op 65024 (omega (arith, op)))
    ∙ ap (λ (n : ℕ). n ∷ (m.opcode.op - 65024) ∷ []) (sym two.0)
    ∙ ap (λ (n : ℕ). slice_index code at ∷ n ∷ []) back
    ∙ ap (take 2) (sym (front code at (omega (arith, len)) ∙ ap (λ (l : List ℕ). slice_index code at ∷ l) (front code (at + 1) (omega (arith, len)))))
    ∙ ap (λ (n : ℕ). take n (drop at code)) (sym len))
    m.is_opcode.bytes
