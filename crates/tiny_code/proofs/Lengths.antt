-- How many bytes an instruction that is read takes.
use Rattle.std.proofs.Common.{◌≡◌, ℕ, zero, suc, ◌+◌, ◌*◌, ◌≤◌, Bool, true, false, List, [], ◌∷◌, drop, length, Some, None, sym, ap, ◌∙◌, subst, arith, length-drop}
use Rattle.std.specs.Prelude.{ℤ, nat_eq, nat_lt, if◌then◌else◌}
use Rattle.std.specs.Int.{Width, cast_signed}
use Rattle.std.proofs.lemmas.Bool.{lt-ltb, le-ltb}
use Rattle.cil_opcodes.specs.Rows.{row_of}
use Rattle.machine.specs.Throw.{on_some}
use Rattle.image_bytes.specs.Layout.{many}
use Rattle.image_form.specs.Codes.{behind_first, read_number, read_signed, Plain, Bare, Signed, Unsigned, Distances, Lie, NoBytes, SignedBy, UnsignedBy, Counted, bytes_for, lie_of, Length, short, plain_size, read_plain, Instr, read_opcode, opcode_size, with_row, read_instr, size}
use Rattle.tiny_rows.proofs.Parts.{some_back}
use Rattle.little_endian.specs.Numbers.{AreBytes}
use Rattle.board_program.proofs.Sizes.{says_opcode}
use Rattle.board_program.proofs.Walks.{bytes_behind}
use Rattle.tiny_code.specs.Numbers.{IsToken}

number_long : (k : ℕ) (bytes : List ℕ) (x : ℕ × List ℕ) → read_number k bytes ≡ Some x → length bytes ≡ suc k + length x.1
number_long k [] x e = cc e
number_long zero (b ∷ bytes) x e = let same : (b, bytes) ≡ x = cc e in let n = ap (λ (y : ℕ × List ℕ). length y.1) same in omega (arith, n)
number_long (suc k) (b ∷ bytes) x e =
    let r = some_back (read_number k bytes) (λ n. Some (b + 256 * n.0, n.1)) x e in
    let same : (b + 256 * r.0.0, r.0.1) ≡ x = cc r.2 in
    let n = ap (λ (y : ℕ × List ℕ). length y.1) same in
    let rest = number_long k bytes r.0 r.1 in
    omega (arith, n, rest)

signed_long : (w : Width) (bytes : List ℕ) (x : ℤ × List ℕ) → read_signed w bytes ≡ Some x → length bytes ≡ suc (behind_first w) + length x.1
signed_long w bytes x e =
    let r = some_back (read_number (behind_first w) bytes) (λ n. Some (cast_signed w n.0, n.1)) x e in
    let same : (cast_signed w r.0.0, r.0.1) ≡ x = cc r.2 in
    number_long (behind_first w) bytes r.0 r.1 ∙ ap (λ (y : ℤ × List ℕ). suc (behind_first w) + length y.1) same

many_long : (w : Width) (n : ℕ) (bytes : List ℕ) (t : List ℤ × List ℕ) → many (read_signed w) n bytes ≡ Some t → length bytes ≡ bytes_for (behind_first w) t.0 + length t.1
many_long w zero bytes t e = let same : ([], bytes) ≡ t = cc e in subst (λ (x : List ℤ × List ℕ). length bytes ≡ bytes_for (behind_first w) x.0 + length x.1) same (omega arith)
many_long w (suc n) bytes t e =
    let first = some_back (read_signed w bytes) (λ x. on_some (many (read_signed w) n x.1) (λ xs. Some (x.0 ∷ xs.0, xs.1))) t e in
    let rest = some_back (many (read_signed w) n first.0.1) (λ xs. Some (first.0.0 ∷ xs.0, xs.1)) t first.2 in
    let same : (first.0.0 ∷ rest.0.0, rest.0.1) ≡ t = cc rest.2 in
    let front = signed_long w bytes first.0 first.1 in
    let behind = many_long w n first.0.1 rest.0 rest.1 in
    subst (λ (x : List ℤ × List ℕ). length bytes ≡ bytes_for (behind_first w) x.0 + length x.1) same (omega (arith, front, behind))

plain_long : (l : Length) (lie : Lie) (bytes : List ℕ) (x : Plain × List ℕ) → read_plain l lie bytes ≡ Some x → length bytes ≡ plain_size l x.0 lie + length x.1
plain_long l NoBytes bytes x e = let same : (Bare, bytes) ≡ x = cc e in let n = ap (λ (y : Plain × List ℕ). length y.1) same in omega (arith, n)
plain_long l (SignedBy w) bytes x e =
    let r = some_back (read_signed w bytes) (λ n. Some (Signed n.0, n.1)) x e in
    let same : (Signed r.0.0, r.0.1) ≡ x = cc r.2 in
    signed_long w bytes r.0 r.1 ∙ ap (λ (y : Plain × List ℕ). suc (behind_first w) + length y.1) same
plain_long l (UnsignedBy k) bytes x e =
    let r = some_back (read_number k bytes) (λ n. Some (Unsigned n.0, n.1)) x e in
    let same : (Unsigned r.0.0, r.0.1) ≡ x = cc r.2 in
    number_long k bytes r.0 r.1 ∙ ap (λ (y : Plain × List ℕ). suc k + length y.1) same
plain_long l Counted bytes x e =
    let n = some_back (read_number l.count bytes) (λ n. on_some (many (read_signed l.distance) n.0 n.1) (λ t. Some (Distances t.0, t.1))) x e in
    let t = some_back (many (read_signed l.distance) n.0.0 n.0.1) (λ t. Some (Distances t.0, t.1)) x n.2 in
    let same : (Distances t.0.0, t.0.1) ≡ x = cc t.2 in
    let front = number_long l.count bytes n.0 n.1 in
    let behind = many_long l.distance n.0.0 n.0.1 t.0 t.1 in
    subst (λ (y : Plain × List ℕ). length bytes ≡ plain_size l y.0 Counted + length y.1) same (omega (arith, front, behind))

opcode_long : (bytes : List ℕ) (o : ℕ × List ℕ) → AreBytes bytes → read_opcode bytes ≡ Some o → length bytes ≡ opcode_size o.0 + length o.1
opcode_long [] o h e = cc e
opcode_long (b ∷ []) o h e = by (nat_eq b 254) e where
  by : (t : Bool) → (if t then None else Some (b, [])) ≡ Some o → 1 ≡ opcode_size o.0 + length o.1
  by true e = cc e
  by false e =
      let same : (b, []) ≡ o = cc e in
      let small = lt-ltb b 65024 (omega (arith, h 0)) in
      subst (λ (x : ℕ × List ℕ). 1 ≡ opcode_size x.0 + length x.1) same (ap (λ t. (if t then 1 else 2) + 0) (sym small))
opcode_long (b ∷ c ∷ rest) o h e = by (nat_eq b 254) e where
  by : (t : Bool) → (if t then Some (65024 + c, rest) else Some (b, c ∷ rest)) ≡ Some o → length (b ∷ c ∷ rest) ≡ opcode_size o.0 + length o.1
  by true e =
      let same : (65024 + c, rest) ≡ o = cc e in
      let large = le-ltb (65024 + c) 65024 (omega arith) in
      let two : 2 ≡ opcode_size (65024 + c) = ap (λ t. if t then 1 else 2) (sym large) in
      subst (λ (x : ℕ × List ℕ). length (b ∷ c ∷ rest) ≡ opcode_size x.0 + length x.1) same (omega (arith, two))
  by false e =
      let same : (b, c ∷ rest) ≡ o = cc e in
      let small = lt-ltb b 65024 (omega (arith, h 0)) in
      let one : 1 ≡ opcode_size b = ap (λ t. if t then 1 else 2) (sym small) in
      subst (λ (x : ℕ × List ℕ). length (b ∷ c ∷ rest) ≡ opcode_size x.0 + length x.1) same (omega (arith, one))

pub instr_long : (l : Length) (bytes : List ℕ) (x : Instr × List ℕ) → AreBytes bytes → read_instr row_of l bytes ≡ Some x → length bytes ≡ size l x.0 + length x.1
instr_long l bytes x h e =
    let o = some_back (read_opcode bytes) (λ o. on_some (row_of o.0) (with_row row_of l o.1)) x e in
    let r = some_back (row_of o.0.0) (with_row row_of l o.0.1) x o.2 in
    let p = some_back (read_plain l (lie_of l r.0.operand) o.0.1) (λ p. Some (record { row = r.0; operand = p.0 }, p.1)) x r.2 in
    let same : (record { row = r.0; operand = p.0.0 }, p.0.1) ≡ x = cc p.2 in
    let front = opcode_long bytes o.0 h o.1 in
    let behind = plain_long l (lie_of l r.0.operand) o.0.1 p.0 p.1 in
    let op = ap opcode_size (says_opcode o.0.0 r.0 r.1) in
    subst (λ (y : Instr × List ℕ). length bytes ≡ size l y.0 + length y.1) same (omega (arith, front, behind, op))

opcode_some : (o : ℕ) → 1 ≤ opcode_size o
opcode_some o = by (nat_lt o 65024) where
  by : (t : Bool) → 1 ≤ (if t then 1 else 2)
  by true = omega arith
  by false = omega arith

-- behind an instruction that is read at a place of code
pub place_is : (code : List ℕ) (at next : ℕ) (i : Instr) → AreBytes code → next ≤ length code → Some (i, drop next code) ≡ read_instr row_of short (drop at code) → next ≡ at + size short i
place_is code at next i bytes inside e =
    let long = instr_long short (drop at code) (i, drop next code) (bytes_behind at code bytes) (sym e) in
    let whole = length-drop at code in
    let rest = length-drop next code in
    let some = opcode_some i.row.opcode in
    omega (arith, long, whole, rest, inside, some)

-- ---- a token

token_read : (l : Length) (lie : Lie) (bytes : List ℕ) (x : Plain × List ℕ) → read_plain l lie bytes ≡ Some x → IsToken lie x.0
token_read l NoBytes bytes x e = tt
token_read l (SignedBy w) bytes x e = tt
token_read l Counted bytes x e = tt
token_read l (UnsignedBy k) bytes x e =
    let r = some_back (read_number k bytes) (λ n. Some (Unsigned n.0, n.1)) x e in
    (r.0.0, let same : (Unsigned r.0.0, r.0.1) ≡ x = cc r.2 in sym (ap (λ (y : Plain × List ℕ). y.0) same))

pub token_is : (l : Length) (lie : Lie) (bytes rest : List ℕ) (p : Plain) → Some (p, rest) ≡ read_plain l lie bytes → IsToken lie p
token_is l lie bytes rest p e = token_read l lie bytes (p, rest) (sym e)
