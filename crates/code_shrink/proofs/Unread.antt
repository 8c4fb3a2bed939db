-- Where no instruction stands, none is read.
use Rattle.std.proofs.Common.{◌≡◌, ◌≢◌, inl, inr, ℕ, zero, suc, ◌+◌, ◌-◌, ◌*◌, ◌<◌, ◌≤◌, Bool, true, false, cond, eqb, leb, List, [], ◌∷◌, length, drop, Option, Some, None, Result, Ok, Err, refl, sym, ap, ◌∙◌, arith, length-drop, ⊎_elim}
use Rattle.std.specs.Prelude.{◌⊎◌, ℤ, nat_eq, slice_index}
use Rattle.std.specs.Option.{ok_or}
use Rattle.std.specs.Int.{Width, w8, w32, w64, cast_signed}
use Rattle.std.proofs.Math.ListN.{drop_of_length-le}
use Rattle.std.proofs.lemmas.Bool.{leb-true, leb-false, cases_lt}
use Rattle.cil_opcodes.specs.declared.shape.Operand.{Operand}
use Rattle.cil_opcodes.specs.declared.shape.Operand.TheVariants as kinds
use Rattle.cil_opcodes.specs.declared.shape.Row.{Row}
use Rattle.cil_opcodes.specs.Rows.{row_of}
use Rattle.file_tables.specs.Bytes.{u32_at}
use Rattle.cil_code.specs.declared.fault.CodeFault.{CodeFault}
use Rattle.cil_code.specs.declared.fault.TheConstants.{NO_SUCH_OPCODE, PAST_THE_END}
use Rattle.cil_code.specs.declared.instructions.Instr.{Instr}
use Rattle.cil_code.specs.declared.instructions.Opcode.{Opcode}
use Rattle.cil_code.specs.declared.instructions.TheConstants.{TWO_BYTES}
use Rattle.cil_code.specs.Instructions.{◌>>=◌, fault_at, opcode_at, second_byte, operand_at, operand_len, whole_len, instruction_at}
use Rattle.machine.specs.Throw.{on_some}
use Rattle.image_bytes.specs.Layout.{many}
use Rattle.machine_rename.proofs.PlaceLaws.{if_true}
use Rattle.image_form.specs.Codes as codes
use Rattle.image_form.specs.Codes.{read_number, behind_first, read_signed, Plain, Signed, Unsigned, Distances, SignedBy, UnsignedBy, lie_of, read_plain, read_opcode, with_row, read_instr, long}
use Rattle.code_shrink.proofs.Reading.{num, front, number_at, num_four, opcode_read}

-- ---- bytes that are cut

number_cut : (k : ℕ) (xs : List ℕ) → length xs ≤ k → read_number k xs ≡ None
number_cut k [] le = refl
number_cut zero (b ∷ bs) le = absurd (omega (arith, le))
number_cut (suc k) (b ∷ bs) le = ap (λ o. on_some o (λ (x : ℕ × List ℕ). Some (b + 256 * x.0, x.1))) (number_cut k bs (omega (arith, le)))

signed_cut : (w : Width) (xs : List ℕ) → length xs ≤ behind_first w → read_signed w xs ≡ None
signed_cut w xs le = ap (λ o. on_some o (λ (x : ℕ × List ℕ). Some (cast_signed w x.0, x.1))) (number_cut (behind_first w) xs le)

many_cut : (n : ℕ) (xs : List ℕ) → length xs < 4 * n → many (read_signed w32) n xs ≡ None
many_cut zero xs lt = absurd (omega (arith, lt))
many_cut (suc n) xs lt =
    ⊎_elim
    (λ few. ap (λ o. on_some o (λ (x : ℤ × List ℕ). on_some (many (read_signed w32) n x.1) (λ (ys : List ℤ × List ℕ). Some (x.0 ∷ ys.0, ys.1)))) (signed_cut w32 xs (omega (arith, few))))
    (λ some.
    ap (λ o. on_some (on_some o (λ (x : ℕ × List ℕ). Some (cast_signed w32 x.0, x.1))) (λ (x : ℤ × List ℕ). on_some (many (read_signed w32) n x.1) (λ (ys : List ℤ × List ℕ). Some (x.0 ∷ ys.0, ys.1)))) (number_at 3 xs 0 (omega (arith, some)))
    ∙ ap (λ o. on_some o (λ (ys : List ℤ × List ℕ). Some (cast_signed w32 (num 3 xs 0) ∷ ys.0, ys.1))) (many_cut n (drop 4 xs) (omega (arith, length-drop 4 xs, lt))))
    (cases_lt (length xs) 4)

left : (code : List ℕ) (at n : ℕ) → length code < at + suc n → length (drop at code) ≤ n
left code at n lt = omega (arith, length-drop at code, lt)

-- an operand that begins inside the code and ends past it
plain_signed : (w : Width) (code : List ℕ) (at : ℕ) → length code < at + suc (behind_first w) → read_plain long (SignedBy w) (drop at code) ≡ None
plain_signed w code at lt = ap (λ o. on_some o (λ (x : ℤ × List ℕ). Some (Signed x.0, x.1))) (signed_cut w (drop at code) (left code at (behind_first w) lt))

plain_unsigned : (k : ℕ) (code : List ℕ) (at : ℕ) → length code < at + suc k → read_plain long (UnsignedBy k) (drop at code) ≡ None
plain_unsigned k code at lt = ap (λ o. on_some o (λ (x : ℕ × List ℕ). Some (Unsigned x.0, x.1))) (number_cut k (drop at code) (left code at k lt))

switch_cut : (code : List ℕ) (at : ℕ) → length code < at + (4 + 4 * u32_at code at) → read_plain long (lie_of long kinds.Switch) (drop at code) ≡ None
switch_cut code at lt =
    ⊎_elim
    (λ few. ap (λ o. on_some o (λ (x : ℕ × List ℕ). on_some (many (read_signed w32) x.0 x.1) (λ (t : List ℤ × List ℕ). Some (Distances t.0, t.1)))) (number_cut 3 (drop at code) (left code at 3 few)))
    (λ some.
    ap (λ o. on_some o (λ (x : ℕ × List ℕ). on_some (many (read_signed w32) x.0 x.1) (λ (t : List ℤ × List ℕ). Some (Distances t.0, t.1)))) (number_at 3 code at some ∙ ap (λ (m : ℕ). Some (m, drop (at + 4) code)) (num_four code at))
    ∙ ap (λ o. on_some o (λ (t : List ℤ × List ℕ). Some (Distances t.0, t.1))) (many_cut (u32_at code at) (drop (at + 4) code) (omega (arith, length-drop (at + 4) code, lt, some))))
    (cases_lt (length code) (at + 4))

plain_cut : (kind : Operand) (code : List ℕ) (at : ℕ) → at ≤ length code → length code < at + operand_len kind code at → read_plain long (lie_of long kind) (drop at code) ≡ None
unfolding operand_len
plain_cut kinds.Nothing code at le lt = absurd (omega (arith, le, lt))
plain_cut kinds.Int8 code at le lt = plain_signed w8 code at lt
plain_cut kinds.UInt8 code at le lt = plain_unsigned 0 code at lt
plain_cut kinds.UInt16 code at le lt = plain_unsigned 1 code at lt
plain_cut kinds.Int32 code at le lt = plain_signed w32 code at lt
plain_cut kinds.Int64 code at le lt = plain_signed w64 code at lt
plain_cut kinds.BranchShort code at le lt = plain_signed w8 code at lt
plain_cut kinds.BranchLong code at le lt = plain_signed w32 code at lt
plain_cut kinds.Switch code at le lt = switch_cut code at lt
plain_cut kinds.TypeToken code at le lt = plain_unsigned 3 code at lt
plain_cut kinds.FieldToken code at le lt = plain_unsigned 3 code at lt
plain_cut kinds.MethodToken code at le lt = plain_unsigned 3 code at lt
plain_cut kinds.StringToken code at le lt = plain_unsigned 3 code at lt
plain_cut kinds.AnyToken code at le lt = plain_unsigned 3 code at lt

-- ---- an opcode that is cut

alone : (b : ℕ) (rest : List ℕ) → rest ≡ [] → nat_eq b 254 ≡ true → read_opcode (b ∷ rest) ≡ None
alone b rest none e = ap (λ (r : List ℕ). read_opcode (b ∷ r)) none ∙ if_true (nat_eq b 254) None (Some (b, [])) e

none_by : {A : Type 0} (b : Bool) (x : Option A) (y : A) → cond b x (Some y) ≡ None → (b ≡ true) × (x ≡ None)
none_by true x y e = (refl, e)
none_by false x y e = absurd cc

opcode_cut : (code : List ℕ) (at : ℕ) → opcode_at code at ≡ None → read_opcode (drop at code) ≡ None
unfolding opcode_at
opcode_cut code at e = by (leb (length code) at) refl e where
  by : (b : Bool) → leb (length code) at ≡ b → cond {A = Option Opcode} b None (cond {A = Option Opcode} (eqb (slice_index code at) TWO_BYTES) (second_byte code (at + 1)) (Some (record { op = slice_index code at; len = 1 }))) ≡ None → read_opcode (drop at code) ≡ None
  by true past h = ap read_opcode (drop_of_length-le code (leb-true _ _ past))
  by false inside h =
      let lt = leb-false _ _ inside in
      let two = none_by (eqb (slice_index code at) TWO_BYTES) (second_byte code (at + 1)) (record { op = slice_index code at; len = 1 }) h in
      ap read_opcode (front code at (omega (arith, lt))) ∙ alone (slice_index code at) (drop (at + 1) code) (drop_of_length-le code (last (leb (length code) (at + 1)) refl two.1)) two.0
    where
      last : (b : Bool) → leb (length code) (at + 1) ≡ b → cond {A = Option Opcode} b None (Some (record { op = 0xFE00 + slice_index code (at + 1); len = 2 })) ≡ None → length code ≤ at + 1
      last true past h = leb-true _ _ past
      last false inside h = absurd cc

-- ---- the instruction

module _ (code : List ℕ) (at : ℕ) where
  abbrev with_len : Opcode → Row → Option ℕ → Result Instr CodeFault
  with_len o row some = ok_or some (fault_at at PAST_THE_END) >>= λ len. Ok (record { op = o.op; operand = operand_at row.operand code (at + o.len); length = o.len + len })

  abbrev behind_row : Opcode → Row → Result Instr CodeFault
  behind_row o row = with_len o row (whole_len row.operand code (at + o.len))

  abbrev behind_opcode : Opcode → Result Instr CodeFault
  behind_opcode o = ok_or (row_of o.op) (fault_at at NO_SUCH_OPCODE) >>= behind_row o

  cut_there : (row : Row) (o : Opcode) (fault : CodeFault) → behind_row o row ≡ Err fault → length code < at + o.len + operand_len row.operand code (at + o.len)
  unfolding whole_len
  cut_there row o fault e = by (leb (at + o.len + operand_len row.operand code (at + o.len)) (length code)) refl e where
    by : (b : Bool) → leb (at + o.len + operand_len row.operand code (at + o.len)) (length code) ≡ b → with_len o row (cond {A = Option ℕ} b (Some (operand_len row.operand code (at + o.len))) None) ≡ Err fault → length code < at + o.len + operand_len row.operand code (at + o.len)
    by true fits h = absurd cc
    by false past h = leb-false _ _ past

  row_unread : (o : Opcode) (fault : CodeFault) → at + o.len ≤ length code → behind_opcode o ≡ Err fault → on_some (row_of o.op) (with_row row_of long (drop (at + o.len) code)) ≡ None
  row_unread o fault inside e = by (row_of o.op) refl e where
    by : (r : Option Row) → row_of o.op ≡ r → (ok_or r (fault_at at NO_SUCH_OPCODE) >>= behind_row o) ≡ Err fault → on_some r (with_row row_of long (drop (at + o.len) code)) ≡ None
    by None is h = refl
    by (Some row) is h =
        ap (λ p. on_some p (λ (p : Plain × List ℕ). Some (record { row = row; operand = p.0 }, p.1))) (plain_cut row.operand code (at + o.len) inside (cut_there row o fault h))

  pub unread : (fault : CodeFault) → instruction_at code at ≡ Err fault → read_instr row_of long (drop at code) ≡ None
  unfolding instruction_at
  unread fault e = by (opcode_at code at) refl e where
    by : (p : Option Opcode) → opcode_at code at ≡ p → (ok_or p (fault_at at PAST_THE_END) >>= behind_opcode) ≡ Err fault → read_instr row_of long (drop at code) ≡ None
    by None is h = ap (λ o. on_some o (λ (x : ℕ × List ℕ). on_some (row_of x.0) (with_row row_of long x.1))) (opcode_cut code at is)
    by (Some o) is h =
        ap (λ o. on_some o (λ (x : ℕ × List ℕ). on_some (row_of x.0) (with_row row_of long x.1))) (opcode_read code at o is).read
        ∙ row_unread o fault (opcode_read code at o is).inside h
