-- The parts of an instruction that stands at an offset.
use Rattle.std.proofs.Common.{◌≡◌, ℕ, ◌+◌, ◌*◌, ◌<◌, ◌≤◌, Bool, true, false, cond, eqb, leb, List, length, Option, Some, None, Result, Ok, Err, refl, sym, ap, subst, ◌∙◌, arith, inl, inr}
use Rattle.std.specs.Prelude.{◌⊎◌, ℤ, pos, ◌<ℤ◌, slice_index}
use Rattle.std.specs.Option.{ok_or}
use Rattle.std.proofs.lemmas.Bool.{leb-true, leb-false}
use Rattle.std.proofs.lemmas.Int.{ints}
use Rattle.cil_opcodes.specs.declared.shape.Operand.{Operand}
use Rattle.cil_opcodes.specs.declared.shape.Operand.TheVariants.{Nothing, Switch}
use Rattle.cil_opcodes.specs.declared.shape.Row.{Row}
use Rattle.cil_opcodes.specs.Rows.{row_of}
use Rattle.file_tables.specs.Bytes.{u32_at}
use Rattle.cil_code.specs.declared.fault.CodeFault.{CodeFault}
use Rattle.cil_code.specs.declared.fault.TheConstants.{NO_SUCH_OPCODE, PAST_THE_END}
use Rattle.cil_code.specs.declared.instructions.Instr.{Instr}
use Rattle.cil_code.specs.declared.instructions.Opcode.{Opcode}
use Rattle.cil_code.specs.declared.instructions.TheConstants.{TWO_BYTES, SWITCH}
use Rattle.cil_code.specs.Instructions.{◌>>=◌, fault_at, second_byte, opcode_at, operand_at, operand_len, whole_len, instruction_at, HasTarget}

-- the value of a step that didn't fail
bind_ok : {A B : Type 0} (result : Result A CodeFault) (f : A → Result B CodeFault) (y : B) → (result >>= f) ≡ Ok y → (x : A) × (result ≡ Ok x) × (f x ≡ Ok y)
bind_ok (Ok x) f y e = (x, refl, e)
bind_ok (Err fault) f y e = absurd cc

some_is : {A : Type 0} (o : Option A) (fault : CodeFault) (x : A) → ok_or o fault ≡ Ok x → o ≡ Some x
some_is (Some y) fault x e = let same : y ≡ x = cc in ap (λ z. Some z) same
some_is None fault x e = absurd cc

-- which way a test went
chosen : {A : Type 0} (b : Bool) (x y z : A) → cond b x y ≡ z → ((b ≡ true) × (x ≡ z)) ⊎ ((b ≡ false) × (y ≡ z))
chosen true x y z e = inl (refl, e)
chosen false x y z e = inr (refl, e)

-- what an opcode is made of
pub record IsOpcode (code : List ℕ) (at : ℕ) (opcode : Opcode) : Type 0 where
  pub fits : at + opcode.len ≤ length code
  pub long : 0 < opcode.len
  pub one : opcode.op < 0xFE00 → opcode.len ≡ 1

opcode_is : (code : List ℕ) (at : ℕ) (opcode : Opcode) → opcode_at code at ≡ Some opcode → IsOpcode code at opcode
unfolding opcode_at
opcode_is code at opcode e =
    elim (chosen (leb (length code) at) None (cond (eqb (slice_index code at) TWO_BYTES) (second_byte code (at + 1)) (Some (record { op = slice_index code at; len = 1 }))) (Some opcode) e) [
      | inl past ↦ absurd (let h = past.1 in cc)
      | inr inside ↦
          elim (chosen (eqb (slice_index code at) TWO_BYTES) (second_byte code (at + 1)) (Some (record { op = slice_index code at; len = 1 })) (Some opcode) inside.1) [
            | inl two ↦
                elim (chosen (leb (length code) (at + 1)) None (Some (record { op = 0xFE00 + slice_index code (at + 1); len = 2 })) (Some opcode) two.1) [
                  | inl past ↦ absurd (let h = past.1 in cc)
                  | inr whole ↦ subst (IsOpcode code at) (some_same _ _ whole.1) (let fits = leb-false _ _ whole.0 in record { fits = omega arith; long = omega arith; one = λ small. absurd (omega arith) })
                ]
            | inr one ↦ subst (IsOpcode code at) (some_same _ _ one.1) (let fits = leb-false _ _ inside.0 in record { fits = omega arith; long = omega arith; one = λ small. refl })
          ]
    ]
  where
    some_same : (x y : Opcode) → Path (Option Opcode) (Some x) (Some y) → x ≡ y
    some_same x y e = cc

-- what an instruction is made of
pub record Parts (code : List ℕ) (at : ℕ) (instr : Instr) : Type 0 where
  pub opcode : Opcode
  pub row : Row
  pub stands : opcode_at code at ≡ Some opcode
  pub is_opcode : IsOpcode code at opcode
  pub listed : row_of opcode.op ≡ Some row
  pub fits : at + opcode.len + operand_len row.operand code (at + opcode.len) ≤ length code
  pub made : instr ≡ record { op = opcode.op; operand = operand_at row.operand code (at + opcode.len); length = opcode.len + operand_len row.operand code (at + opcode.len) }

len_is : (operand : Operand) (code : List ℕ) (at len : ℕ) → whole_len operand code at ≡ Some len → (at + operand_len operand code at ≤ length code) × (operand_len operand code at ≡ len)
unfolding whole_len
len_is operand code at len e =
    elim (chosen (leb (at + operand_len operand code at) (length code)) (Some (operand_len operand code at)) None (Some len) e) [
      | inl fits ↦ (leb-true _ _ fits.0, let h = fits.1 in cc)
      | inr cut ↦ absurd (let h = cut.1 in cc)
    ]

pub parts : (code : List ℕ) (at : ℕ) (instr : Instr) → instruction_at code at ≡ Ok instr → Parts code at instr
unfolding instruction_at
parts code at instr e =
    let a = bind_ok (ok_or (opcode_at code at) (fault_at at PAST_THE_END)) (λ opcode. ok_or (row_of opcode.op) (fault_at at NO_SUCH_OPCODE) >>= λ row. ok_or (whole_len row.operand code (at + opcode.len)) (fault_at at PAST_THE_END) >>= λ len. Ok (record { op = opcode.op; operand = operand_at row.operand code (at + opcode.len); length = opcode.len + len })) instr e in
    let b = bind_ok (ok_or (row_of a.0.op) (fault_at at NO_SUCH_OPCODE)) (λ row. ok_or (whole_len row.operand code (at + a.0.len)) (fault_at at PAST_THE_END) >>= λ len. Ok (record { op = a.0.op; operand = operand_at row.operand code (at + a.0.len); length = a.0.len + len })) instr a.2 in
    let c = bind_ok (ok_or (whole_len b.0.operand code (at + a.0.len)) (fault_at at PAST_THE_END)) (λ len. Ok (record { op = a.0.op; operand = operand_at b.0.operand code (at + a.0.len); length = a.0.len + len })) instr b.2 in
    let len = len_is b.0.operand code (at + a.0.len) c.0 (some_is _ _ c.0 c.1) in
    let made : record { op = a.0.op; operand = operand_at b.0.operand code (at + a.0.len); length = a.0.len + c.0 } ≡ instr = ok_same _ _ c.2 in
    record {
      opcode = a.0;
      row = b.0;
      stands = some_is _ _ a.0 a.1;
      is_opcode = opcode_is code at a.0 (some_is _ _ a.0 a.1);
      listed = some_is _ _ b.0 b.1;
      fits = len.0;
      made = rw len.1 (sym made);
    }
  where
    ok_same : (x y : Instr) → Path (Result Instr CodeFault) (Ok x) (Ok y) → x ≡ y
    ok_same x y e = cc

-- an instruction takes a byte at least, and ends inside the code
pub instruction_fits : (code : List ℕ) (at : ℕ) (instr : Instr) → instruction_at code at ≡ Ok instr → (0 < instr.length) × (at + instr.length ≤ length code)
instruction_fits code at instr e =
    let p = parts code at instr e in
    let len = ap (λ (i : Instr). i.length) p.made in
    (omega (arith, p.is_opcode.long), omega (arith, p.fits))

-- the operand of a row, where there is one
abbrev operand_of : Option Row → Operand
operand_of None = Nothing
operand_of (Some row) = row.operand

switch_row : (op : ℕ) (row : Row) → op ≡ SWITCH → row_of op ≡ Some row → row.operand ≡ Switch
switch_row op row is-switch listed = let at_switch = ap (λ (n : ℕ). operand_of (row_of n)) is-switch in sym (ap operand_of listed) ∙ at_switch

-- a switch's targets end inside the code
switch_len : (operand : Operand) (code : List ℕ) (at : ℕ) → operand ≡ Switch → operand_len operand code at ≡ 4 + 4 * u32_at code at
unfolding operand_len
switch_len operand code at is-switch = ap (λ (o : Operand). operand_len o code at) is-switch

switch_operand : (operand : Operand) (code : List ℕ) (at : ℕ) → operand ≡ Switch → operand_at operand code at ≡ pos (u32_at code at)
unfolding operand_at
switch_operand operand code at is-switch = ap (λ (o : Operand). operand_at o code at) is-switch

below_count : (k n : ℕ) (z : ℤ) → z ≡ pos n → pos k <ℤ z → k < n
below_count k n z e lt = omega (arith, ints)

pub target_fits : (code : List ℕ) (at k : ℕ) → HasTarget code at k → at + 5 + 4 * k + 4 ≤ length code
target_fits code at k has =
    let p = parts code at has.instr has.stands in
    let op : p.opcode.op ≡ SWITCH = sym (ap (λ (i : Instr). i.op) p.made) ∙ has.is_switch in
    let one : p.opcode.len ≡ 1 = p.is_opcode.one (omega arith) in
    let is = switch_row p.opcode.op p.row op p.listed in
    let start = at + p.opcode.len in
    let len = switch_len p.row.operand code start is in
    let operand : has.instr.operand ≡ pos (u32_at code start) = ap (λ (i : Instr). i.operand) p.made ∙ switch_operand p.row.operand code start is in
    let below = below_count k (u32_at code start) has.instr.operand operand has.counted in
    omega (arith, p.fits)
