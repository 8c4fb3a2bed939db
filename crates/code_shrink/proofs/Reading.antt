-- An instruction that stands at a place is read there.
use Rattle.std.proofs.Common.{◌≡◌, inl, inr, ℕ, zero, suc, ◌+◌, ◌*◌, ◌<◌, ◌≤◌, Bool, true, false, cond, eqb, leb, List, [], ◌∷◌, length, drop, map, Option, Some, None, refl, sym, ap, ◌∙◌, subst, arith, add-one}
use Rattle.std.specs.Prelude.{◌⊎◌, ℤ, pos, nat_eq, slice_index}
use Rattle.std.specs.List.{range_with_len}
use Rattle.std.specs.Int.{Width, w8, w32, w64, cast_signed}
use Rattle.std.proofs.Math.Seq.{drop-cons}
use Rattle.std.proofs.lemmas.Bool.{leb-false, eqb-true}
use Rattle.cil_opcodes.specs.declared.shape.Operand.{Operand}
use Rattle.cil_opcodes.specs.declared.shape.Operand.TheVariants as kinds
use Rattle.cil_opcodes.specs.declared.shape.Row.{Row}
use Rattle.cil_opcodes.specs.Rows.{row_of}
use Rattle.file_tables.specs.Bytes.{u16_at, u32_at, u64_at}
use Rattle.cil_code.specs.declared.instructions.Instr.{Instr}
use Rattle.cil_code.specs.declared.instructions.Opcode.{Opcode}
use Rattle.cil_code.specs.declared.instructions.TheConstants.{TWO_BYTES}
use Rattle.cil_code.specs.Instructions.{opcode_at, second_byte, operand_at, operand_len, target_at}
use Rattle.cil_code.proofs.Parts.{parts}
use Rattle.machine.specs.Throw.{on_some}
use Rattle.image_bytes.specs.Layout.{many}
use Rattle.machine_rename.proofs.PlaceLaws.{if_true, if_false}
use Rattle.image_form.specs.Codes.{read_number, behind_first, read_signed, Plain, Bare, Signed, Unsigned, Distances, SignedBy, UnsignedBy, lie_of, read_plain, read_opcode, with_row, read_instr, long}
use Rattle.code_shrink.specs.Steps.{IsStep, plain_at, instr_of}
use Rattle.code_shrink.specs.declared.step.Step.{Step}
use Rattle.code_shrink.proofs.Table.{switch_is}

-- ---- numbers, k bytes behind the first

unfoldable pub num : ℕ → List ℕ → ℕ → ℕ
num zero code at = slice_index code at
num (suc k) code at = slice_index code at + 256 * num k code (at + 1)

pub front : (code : List ℕ) (at : ℕ) → at < length code → drop at code ≡ slice_index code at ∷ drop (at + 1) code
front code at lt = rw add-one (drop-cons code at 0 lt)

pub number_at : (k : ℕ) (code : List ℕ) (at : ℕ) → at + suc k ≤ length code → read_number k (drop at code) ≡ Some (num k code at, drop (at + suc k) code)
unfolding num
number_at zero code at le = ap (read_number zero) (front code at (omega arith))
number_at (suc k) code at le =
    ap (read_number (suc k)) (front code at (omega arith))
    ∙ ap (λ o. on_some o (λ (x : ℕ × List ℕ). Some (slice_index code at + 256 * x.0, x.1))) (number_at k code (at + 1) (omega arith))
    ∙ ap (λ (n : ℕ). Some (slice_index code at + 256 * num k code (at + 1), drop n code)) (omega arith)

pub num_two : (code : List ℕ) (at : ℕ) → num 1 code at ≡ u16_at code at
unfolding num u16_at
num_two code at = refl

pub num_four : (code : List ℕ) (at : ℕ) → num 3 code at ≡ u32_at code at
unfolding num u32_at u16_at
num_four code at =
    let two : slice_index code (at + 1 + 1) ≡ slice_index code (at + 2) = ap (slice_index code) (omega arith) in
    let three : slice_index code (at + 1 + 1 + 1) ≡ slice_index code (at + 2 + 1) = ap (slice_index code) (omega arith) in
    omega arith

pub num_eight : (code : List ℕ) (at : ℕ) → num 7 code at ≡ u64_at code at
unfolding num u64_at u32_at u16_at
num_eight code at =
    let b2 : slice_index code (at + 1 + 1) ≡ slice_index code (at + 2) = ap (slice_index code) (omega arith) in
    let b3 : slice_index code (at + 1 + 1 + 1) ≡ slice_index code (at + 2 + 1) = ap (slice_index code) (omega arith) in
    let b4 : slice_index code (at + 1 + 1 + 1 + 1) ≡ slice_index code (at + 4) = ap (slice_index code) (omega arith) in
    let b5 : slice_index code (at + 1 + 1 + 1 + 1 + 1) ≡ slice_index code (at + 4 + 1) = ap (slice_index code) (omega arith) in
    let b6 : slice_index code (at + 1 + 1 + 1 + 1 + 1 + 1) ≡ slice_index code (at + 4 + 2) = ap (slice_index code) (omega arith) in
    let b7 : slice_index code (at + 1 + 1 + 1 + 1 + 1 + 1 + 1) ≡ slice_index code (at + 4 + 2 + 1) = ap (slice_index code) (omega arith) in
    omega arith

-- ---- opcodes

one_read : (b : ℕ) (rest : List ℕ) → nat_eq b 254 ≡ false → read_opcode (b ∷ rest) ≡ Some (b, rest)
one_read b [] e = if_false (nat_eq b 254) None (Some (b, [])) e
one_read b (c ∷ rest) e = if_false (nat_eq b 254) (Some (65024 + c, rest)) (Some (b, c ∷ rest)) e

two_read : (b c : ℕ) (rest : List ℕ) → nat_eq b 254 ≡ true → read_opcode (b ∷ c ∷ rest) ≡ Some (65024 + c, rest)
two_read b c rest e = if_true (nat_eq b 254) (Some (65024 + c, rest)) (Some (b, c ∷ rest)) e

-- which way a test went
chosen : {A : Type 0} (b : Bool) (x y z : A) → cond b x y ≡ z → ((b ≡ true) × (x ≡ z)) ⊎ ((b ≡ false) × (y ≡ z))
chosen true x y z e = inl (refl, e)
chosen false x y z e = inr (refl, e)

-- an opcode, as it is read, and its bytes
pub record IsOpcode (code : List ℕ) (at : ℕ) (o : Opcode) : Type 0 where
  pub read : read_opcode (drop at code) ≡ Some (o.op, drop (at + o.len) code)
  pub bytes : ((o.op ≡ slice_index code at) × (o.len ≡ 1)) ⊎ ((slice_index code at ≡ 254) × ((o.op ≡ 65024 + slice_index code (at + 1)) × (o.len ≡ 2)))
  pub inside : at + o.len ≤ length code

pub opcode_read : (code : List ℕ) (at : ℕ) (o : Opcode) → opcode_at code at ≡ Some o → IsOpcode code at o
unfolding opcode_at
opcode_read code at o e =
    elim (chosen (leb (length code) at) None (cond (eqb (slice_index code at) TWO_BYTES) (second_byte code (at + 1)) (Some (record { op = slice_index code at; len = 1 }))) (Some o) e) [
      | inl past ↦ absurd (let h = past.1 in cc)
      | inr inside ↦
          let lt = leb-false _ _ inside.0 in
          elim (chosen (eqb (slice_index code at) TWO_BYTES) (second_byte code (at + 1)) (Some (record { op = slice_index code at; len = 1 })) (Some o) inside.1) [
            | inl two ↦
                elim (chosen (leb (length code) (at + 1)) None (Some (record { op = 65024 + slice_index code (at + 1); len = 2 })) (Some o) two.1) [
                  | inl past ↦ absurd (let h = past.1 in cc)
                  | inr whole ↦
                      let more = leb-false _ _ whole.0 in
                      let is : record { op = 65024 + slice_index code (at + 1); len = 2 } ≡ o = same _ _ whole.1 in
                      subst (IsOpcode code at) is (record {
                        read = ap read_opcode (front code at (omega arith) ∙ ap (λ (l : List ℕ). slice_index code at ∷ l) (front code (at + 1) (omega arith))) ∙ two_read (slice_index code at) (slice_index code (at + 1)) (drop (at + 1 + 1) code) two.0 ∙ ap (λ (n : ℕ). Some (65024 + slice_index code (at + 1), drop n code)) (omega arith);
                        bytes = inr (eqb-true _ _ two.0, (refl, refl));
                        inside = omega (arith, more);
                      })
                ]
            | inr one ↦
                let is : record { op = slice_index code at; len = 1 } ≡ o = same _ _ one.1 in
                subst (IsOpcode code at) is (record {
                  read = ap read_opcode (front code at (omega arith)) ∙ one_read (slice_index code at) (drop (at + 1) code) one.0;
                  bytes = inl (refl, refl);
                  inside = omega (arith, lt);
                })
          ]
    ]
  where
    same : (x y : Opcode) → Path (Option Opcode) (Some x) (Some y) → x ≡ y
    same x y e = cc

-- ---- operands

signed_read : (w : Width) (code : List ℕ) (at n : ℕ) → at + suc (behind_first w) ≤ length code → num (behind_first w) code at ≡ n → read_plain long (SignedBy w) (drop at code) ≡ Some (Signed (cast_signed w n), drop (at + suc (behind_first w)) code)
signed_read w code at n le e =
    ap (λ o. on_some (on_some o (λ (x : ℕ × List ℕ). Some (cast_signed w x.0, x.1))) (λ (x : ℤ × List ℕ). Some (Signed x.0, x.1))) (number_at (behind_first w) code at le)
    ∙ ap (λ (n : ℕ). Some (Signed (cast_signed w n), drop (at + suc (behind_first w)) code)) e

unsigned_read : (k : ℕ) (code : List ℕ) (at n : ℕ) → at + suc k ≤ length code → num k code at ≡ n → read_plain long (UnsignedBy k) (drop at code) ≡ Some (Unsigned n, drop (at + suc k) code)
unsigned_read k code at n le e =
    ap (λ o. on_some o (λ (x : ℕ × List ℕ). Some (Unsigned x.0, x.1))) (number_at k code at le)
    ∙ ap (λ (n : ℕ). Some (Unsigned n, drop (at + suc k) code)) e

-- distances behind one another
distance_of : List ℕ → ℕ → ℕ → ℤ
distance_of code base k = cast_signed w32 (u32_at code (base + 4 * k))

many_read : (n : ℕ) (code : List ℕ) (base first : ℕ) → base + 4 * (first + n) ≤ length code
    → many (read_signed w32) n (drop (base + 4 * first) code) ≡ Some (map (distance_of code base) (range_with_len first n), drop (base + 4 * (first + n)) code)
unfolding distance_of
many_read zero code base first le = ap (λ (m : ℕ). Some ([], drop m code)) (omega arith)
many_read (suc n) code base first le =
    let at = base + 4 * first in
    let next : at + 4 ≡ base + 4 * (first + 1) = omega arith in
    let d : read_signed w32 (drop at code) ≡ Some (cast_signed w32 (u32_at code at), drop (base + 4 * (first + 1)) code) =
    ap (λ o. on_some o (λ (x : ℕ × List ℕ). Some (cast_signed w32 x.0, x.1))) (number_at 3 code at (omega arith))
    ∙ ap (λ (m : ℕ). Some (cast_signed w32 m, drop (at + 4) code)) (num_four code at)
    ∙ ap (λ (m : ℕ). Some (cast_signed w32 (u32_at code at), drop m code)) next in
    ap (λ o. on_some o (λ (x : ℤ × List ℕ). on_some (many (read_signed w32) n x.1) (λ (xs : List ℤ × List ℕ). Some (x.0 ∷ xs.0, xs.1)))) d
    ∙ ap (λ o. on_some o (λ (xs : List ℤ × List ℕ). Some (cast_signed w32 (u32_at code at) ∷ xs.0, xs.1))) (many_read n code base (first + 1) (omega arith))
    ∙ ap (λ (m : ℕ). Some (cast_signed w32 (u32_at code at) ∷ map (distance_of code base) (range_with_len (first + 1) n), drop m code)) (omega arith)

targets_are : (code : List ℕ) (at : ℕ) (ks : List ℕ) → map (distance_of code (at + 5)) ks ≡ map (target_at code at) ks
unfolding distance_of target_at
targets_are code at ks = refl

switch_read : (code : List ℕ) (at : ℕ) → at + 1 + (4 + 4 * u32_at code (at + 1)) ≤ length code
    → read_plain long (lie_of long kinds.Switch) (drop (at + 1) code) ≡ Some (plain_at code at kinds.Switch (pos (u32_at code (at + 1))), drop (at + 1 + (4 + 4 * u32_at code (at + 1))) code)
switch_read code at le =
    let n = u32_at code (at + 1) in
    let from : at + 1 + 4 ≡ at + 5 + 4 * 0 = omega arith in
    let c : read_number 3 (drop (at + 1) code) ≡ Some (n, drop (at + 5 + 4 * 0) code) =
    number_at 3 code (at + 1) (omega arith) ∙ ap (λ (m : ℕ). Some (m, drop (at + 1 + 4) code)) (num_four code (at + 1)) ∙ ap (λ (m : ℕ). Some (n, drop m code)) from in
    ap (λ o. on_some o (λ (x : ℕ × List ℕ). on_some (many (read_signed w32) x.0 x.1) (λ (t : List ℤ × List ℕ). Some (Distances t.0, t.1)))) c
    ∙ ap (λ o. on_some o (λ (t : List ℤ × List ℕ). Some (Distances t.0, t.1))) (many_read n code (at + 5) 0 (omega arith))
    ∙ ap (λ (ds : List ℤ). Some (Distances ds, drop (at + 5 + 4 * (0 + n)) code)) (targets_are code at (range_with_len 0 n))
    ∙ ap (λ (m : ℕ). Some (Distances (map (target_at code at) (range_with_len 0 n)), drop m code)) (omega arith)

-- an operand that begins at a place; a switch's begins behind its one byte
plain_read : (kind : Operand) (code : List ℕ) (at start : ℕ) → start + operand_len kind code start ≤ length code → (kind ≡ kinds.Switch → start ≡ at + 1)
    → read_plain long (lie_of long kind) (drop start code) ≡ Some (plain_at code at kind (operand_at kind code start), drop (start + operand_len kind code start) code)
unfolding operand_len operand_at
plain_read kinds.Nothing code at start le s = ap (λ (m : ℕ). Some (Bare, drop m code)) (omega arith)
plain_read kinds.Int8 code at start le s = signed_read w8 code start (slice_index code start) le (unfold num in refl)
plain_read kinds.UInt8 code at start le s = unsigned_read 0 code start (slice_index code start) le (unfold num in refl)
plain_read kinds.UInt16 code at start le s = unsigned_read 1 code start (u16_at code start) le (num_two code start)
plain_read kinds.Int32 code at start le s = signed_read w32 code start (u32_at code start) le (num_four code start)
plain_read kinds.Int64 code at start le s = signed_read w64 code start (u64_at code start) le (num_eight code start)
plain_read kinds.BranchShort code at start le s = signed_read w8 code start (slice_index code start) le (unfold num in refl)
plain_read kinds.BranchLong code at start le s = signed_read w32 code start (u32_at code start) le (num_four code start)
plain_read kinds.Switch code at start le s =
    let start_is : at + 1 ≡ start = sym (s refl) in
    let P : ℕ → Type 0 = λ n. n + (4 + 4 * u32_at code n) ≤ length code → read_plain long (lie_of long kinds.Switch) (drop n code) ≡ Some (plain_at code at kinds.Switch (pos (u32_at code n)), drop (n + (4 + 4 * u32_at code n)) code) in
    subst P start_is (switch_read code at) le
plain_read kinds.TypeToken code at start le s = unsigned_read 3 code start (u32_at code start) le (num_four code start)
plain_read kinds.FieldToken code at start le s = unsigned_read 3 code start (u32_at code start) le (num_four code start)
plain_read kinds.MethodToken code at start le s = unsigned_read 3 code start (u32_at code start) le (num_four code start)
plain_read kinds.StringToken code at start le s = unsigned_read 3 code start (u32_at code start) le (num_four code start)
plain_read kinds.AnyToken code at start le s = unsigned_read 3 code start (u32_at code start) le (num_four code start)

-- ---- the instruction

-- its parts, with the row that the step has
pub record IsMade (code : List ℕ) (at : ℕ) (s : Step) : Type 0 where
  pub opcode : Opcode
  pub is_opcode : IsOpcode code at opcode
  pub op : s.instr.op ≡ opcode.op
  pub fits : at + opcode.len + operand_len s.row.operand code (at + opcode.len) ≤ length code
  pub operand : s.instr.operand ≡ operand_at s.row.operand code (at + opcode.len)
  pub length : s.instr.length ≡ opcode.len + operand_len s.row.operand code (at + opcode.len)
  pub switch : s.row.operand ≡ kinds.Switch → opcode.len ≡ 1

pub made : (code : List ℕ) (at : ℕ) (s : Step) → IsStep code at s → IsMade code at s
made code at s h =
    let p = parts code at s.instr h.stands in
    let op : s.instr.op ≡ p.opcode.op = ap (λ (i : Instr). i.op) p.made in
    let row : p.row ≡ s.row = same p.row s.row (sym p.listed ∙ ap row_of (sym op) ∙ h.listed) in
    subst (λ (r : Row). IsMade code at (record { row = r; instr = s.instr })) row (record {
      opcode = p.opcode;
      is_opcode = opcode_read code at p.opcode p.stands;
      op = op;
      fits = p.fits;
      operand = ap (λ (i : Instr). i.operand) p.made;
      length = ap (λ (i : Instr). i.length) p.made;
      switch = λ e. p.is_opcode.one (let n = switch_is p.opcode.op p.row p.listed e in omega arith);
    })
  where
    same : (x y : Row) → Path (Option Row) (Some x) (Some y) → x ≡ y
    same x y e = cc

pub read : (code : List ℕ) (at : ℕ) (s : Step) → IsStep code at s → read_instr row_of long (drop at code) ≡ Some (instr_of code at s, drop (at + s.instr.length) code)
read code at s h =
    let m = made code at s h in
    let start = at + m.opcode.len in
    let listed : row_of m.opcode.op ≡ Some s.row = ap row_of (sym m.op) ∙ h.listed in
    let end : start + operand_len s.row.operand code start ≡ at + s.instr.length = omega (arith, m.length) in
    ap (λ o. on_some o (λ (x : ℕ × List ℕ). on_some (row_of x.0) (with_row row_of long x.1))) m.is_opcode.read
    ∙ ap (λ o. on_some o (with_row row_of long (drop start code))) listed
    ∙ ap (λ o. on_some o (λ (p : Plain × List ℕ). Some (record { row = s.row; operand = p.0 }, p.1))) (plain_read s.row.operand code at start m.fits (λ e. let one = m.switch e in omega arith))
    ∙ ap (λ (z : ℤ). Some (record { row = s.row; operand = plain_at code at s.row.operand z }, drop (start + operand_len s.row.operand code start) code)) (sym m.operand)
    ∙ ap (λ (n : ℕ). Some (instr_of code at s, drop n code)) end
