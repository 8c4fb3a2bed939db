-- What is behind an instruction, by the number of bytes that are left.
use Rattle.std.proofs.Common.{◌≡◌, inl, inr, ℕ, ◌+◌, ◌-◌, ◌≤◌, List, [], ◌∷◌, drop, length, Some, None, sym, ap, ◌∙◌, arith, drop-drop, length-drop}
use Rattle.std.specs.Prelude.{nat_eq, if◌then◌else◌, Bool, true, false}
use Rattle.std.proofs.lemmas.Bool.{cases_lt}
use Rattle.std.proofs.lemmas.List.{drop_all}
use Rattle.cil_opcodes.specs.declared.shape.Row.{Row}
use Rattle.cil_opcodes.specs.Rows.{row_of}
use Rattle.machine.specs.Throw.{on_some}
use Rattle.image_form.specs.Codes.{Plain, Lie, lie_of, Length, short, plain_size, read_plain, read_opcode, with_row, read_instr}
use Rattle.board_program.proofs.Sizes.{plain_size_law}

-- the bytes are others from some place on
pub record IsTail (rest bytes : List ℕ) : Type 0 where
  pub behind : ℕ
  pub is : rest ≡ drop behind bytes

pub tail_of_tail : (a b c : List ℕ) → IsTail a b → IsTail b c → IsTail a c
tail_of_tail a b c f g = record { behind = g.behind + f.behind; is = f.is ∙ ap (drop f.behind) g.is ∙ drop-drop f.behind g.behind c }

pub plain_tail : (l : Length) (lie : Lie) (bytes : List ℕ) (x : Plain × List ℕ) → read_plain l lie bytes ≡ Some x → IsTail x.1 bytes
plain_tail l lie bytes x e = record { behind = plain_size l x.0 lie; is = plain_size_law l lie bytes x e }

pub opcode_tail : (bytes : List ℕ) (o : ℕ × List ℕ) → read_opcode bytes ≡ Some o → IsTail o.1 bytes
opcode_tail [] o e = cc e
opcode_tail (b ∷ []) o e = by (nat_eq b 254) e where
  by : (t : Bool) → (if t then None else Some (b, [])) ≡ Some o → IsTail o.1 (b ∷ [])
  by true e = cc e
  by false e = let same : (b, []) ≡ o = cc e in record { behind = 1; is = sym (ap (λ (x : ℕ × List ℕ). x.1) same) }
opcode_tail (b ∷ c ∷ rest) o e = by (nat_eq b 254) e where
  by : (t : Bool) → (if t then Some (65024 + c, rest) else Some (b, c ∷ rest)) ≡ Some o → IsTail o.1 (b ∷ c ∷ rest)
  by true e = let same : (65024 + c, rest) ≡ o = cc e in record { behind = 2; is = sym (ap (λ (x : ℕ × List ℕ). x.1) same) }
  by false e = let same : (b, c ∷ rest) ≡ o = cc e in record { behind = 1; is = sym (ap (λ (x : ℕ × List ℕ). x.1) same) }

pub tail_shorter : (rest bytes : List ℕ) → IsTail rest bytes → length rest ≤ length bytes
tail_shorter rest bytes t = let n = ap length t.is ∙ length-drop t.behind bytes in omega (arith, n)

-- a tail begins where so many bytes are left
pub tail_begins : (rest bytes : List ℕ) → IsTail rest bytes → drop (length bytes - length rest) bytes ≡ rest
tail_begins rest bytes t =
    let n : length rest ≡ length bytes - t.behind = ap length t.is ∙ length-drop t.behind bytes in
    elim (cases_lt (length bytes) t.behind) [
      | inl past ↦ drop_all (length bytes - length rest) bytes (omega (arith, n, past)) ∙ sym (t.is ∙ drop_all t.behind bytes (omega (arith, past)))
      | inr inside ↦ ap (λ k. drop k bytes) (omega (arith, n, inside)) ∙ sym t.is
    ]

-- an instruction by its parts
pub record IsInstr (code : List ℕ) (at : ℕ) (row : Row) (p : Plain × List ℕ) : Type 0 where
  pub inside : length p.1 ≤ length code
  pub is : Some (record { row = row; operand = p.0 }, drop (length code - length p.1) code) ≡ read_instr row_of short (drop at code)

pub instr_of_parts : (code front : List ℕ) (at : ℕ) (o : ℕ × List ℕ) (row : Row) (p : Plain × List ℕ) → front ≡ drop at code → Some o ≡ read_opcode front → Some row ≡ row_of o.0
    → Some p ≡ read_plain short (lie_of short row.operand) o.1 → IsInstr code at row p
instr_of_parts code front at o row p from opcode listed operand =
    let third : IsTail front code = record { behind = at; is = from } in
    let second = tail_of_tail o.1 front code (opcode_tail front o (sym opcode)) third in
    let tail = tail_of_tail p.1 o.1 code (plain_tail short (lie_of short row.operand) o.1 p (sym operand)) second in
    record {
      inside = tail_shorter p.1 code tail;
      is =
          ap (λ rest. Some (record { row = row; operand = p.0 }, rest)) (tail_begins p.1 code tail)
          ∙ ap (λ x. on_some x (λ (q : Plain × List ℕ). Some (record { row = row; operand = q.0 }, q.1))) operand
          ∙ ap (λ x. on_some x (λ (r : Row). with_row row_of short o.1 r)) listed
          ∙ ap (λ x. on_some x (λ (q : ℕ × List ℕ). on_some (row_of q.0) (with_row row_of short q.1))) opcode
          ∙ ap (read_instr row_of short) from;
    }
