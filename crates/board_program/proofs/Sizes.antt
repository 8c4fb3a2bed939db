-- What is behind an instruction that is read: the bytes from its size on.
use Rattle.std.proofs.Common.{◌≡◌, ℕ, zero, suc, ◌+◌, ◌-◌, ◌*◌, Bool, true, false, ◌&&◌, List, [], ◌∷◌, drop, Option, Some, None, refl, sym, ap, ◌∙◌, subst, arith, drop-drop}
use Rattle.std.specs.Prelude.{ℤ, nat_eq, nat_lt, if◌then◌else◌}
use Rattle.std.specs.Int.{Width, cast_signed}
use Rattle.std.proofs.lemmas.Bool.{eqb-true, ltb-false, lt-ltb, le-ltb}
use Rattle.cil_opcodes.specs.declared.shape.Row.{Row}
use Rattle.cil_opcodes.specs.declared.table.TheConstants.{ONE_BYTE, TWO_BYTES}
use Rattle.cil_opcodes.specs.Rows.{entry_of, row_of}
use Rattle.machine.specs.Throw.{on_some}
use Rattle.image_bytes.specs.Layout.{many}
use Rattle.image_form.specs.Codes.{behind_first, read_number, read_signed, Plain, Bare, Signed, Unsigned, Distances, Lie, NoBytes, SignedBy, UnsignedBy, Counted, bytes_for, lie_of, Length, plain_size, read_plain, Instr, read_opcode, opcode_size, with_row, read_instr, size}
use Rattle.tiny_rows.proofs.Parts.{some_back}
use Rattle.little_endian.specs.Numbers.{AreBytes}

-- ---- each row of the table says its opcode

abbrev says : ℕ → Option Row → Bool
says n None = true
says n (Some row) = nat_eq row.opcode n

abbrev all_say : ℕ → List (Option Row) → Bool
all_say n [] = true
all_say n (row ∷ rows) = says n row && all_say (suc n) rows

both : (a b : Bool) → (a && b) ≡ true → (a ≡ true) × (b ≡ true)
both true true e = (refl, refl)
both true false e = absurd cc
both false b e = absurd cc

found : (first n : ℕ) (rows : List (Option Row)) (row : Row) → all_say first rows ≡ true → entry_of rows n ≡ Some row → says (first + n) (Some row) ≡ true
found first n [] row h e = absurd cc
found first zero (x ∷ rows) row h e =
    let here : x ≡ Some row = e in
    let same : first ≡ first + 0 = omega arith in
    subst (λ (m : ℕ). says m (Some row) ≡ true) same (subst (λ (o : Option Row). says first o ≡ true) here (both (says first x) (all_say (suc first) rows) h).0)
found first (suc n) (x ∷ rows) row h e =
    let same : suc first + n ≡ first + suc n = omega arith in
    subst (λ (m : ℕ). says m (Some row) ≡ true) same (found (suc first) n rows row (both (says first x) (all_say (suc first) rows) h).1 e)

one_byte : all_say 0 ONE_BYTE ≡ true
one_byte = refl

two_bytes : all_say 65024 TWO_BYTES ≡ true
two_bytes = refl

pub says_opcode : (op : ℕ) (row : Row) → row_of op ≡ Some row → row.opcode ≡ op
says_opcode op row e = eqb-true row.opcode op (by (nat_lt op 65024) refl e) where
  by : (b : Bool) → nat_lt op 65024 ≡ b → (if b then entry_of ONE_BYTE op else entry_of TWO_BYTES (op - 65024)) ≡ Some row → says op (Some row) ≡ true
  by true lt e =
      let same : 0 + op ≡ op = omega arith in
      subst (λ (m : ℕ). says m (Some row) ≡ true) same (found 0 op ONE_BYTE row one_byte e)
  by false ge e =
      let le = ltb-false op 65024 ge in
      let same : 65024 + (op - 65024) ≡ op = omega (arith, le) in
      subst (λ (m : ℕ). says m (Some row) ≡ true) same (found 65024 (op - 65024) TWO_BYTES row two_bytes e)

-- ---- numbers

number_size : (k : ℕ) (bytes : List ℕ) (x : ℕ × List ℕ) → read_number k bytes ≡ Some x → x.1 ≡ drop (suc k) bytes
number_size k [] x e = cc e
number_size zero (b ∷ bytes) x e = let same : (b, bytes) ≡ x = cc e in sym (ap (λ (y : ℕ × List ℕ). y.1) same)
number_size (suc k) (b ∷ bytes) x e =
    let r = some_back (read_number k bytes) (λ n. Some (b + 256 * n.0, n.1)) x e in
    let same : (b + 256 * r.0.0, r.0.1) ≡ x = cc r.2 in
    sym (ap (λ (y : ℕ × List ℕ). y.1) same) ∙ number_size k bytes r.0 r.1

signed_size : (w : Width) (bytes : List ℕ) (x : ℤ × List ℕ) → read_signed w bytes ≡ Some x → x.1 ≡ drop (suc (behind_first w)) bytes
signed_size w bytes x e =
    let r = some_back (read_number (behind_first w) bytes) (λ n. Some (cast_signed w n.0, n.1)) x e in
    let same : (cast_signed w r.0.0, r.0.1) ≡ x = cc r.2 in
    sym (ap (λ (y : ℤ × List ℕ). y.1) same) ∙ number_size (behind_first w) bytes r.0 r.1

many_size : (w : Width) (n : ℕ) (bytes : List ℕ) (t : List ℤ × List ℕ) → many (read_signed w) n bytes ≡ Some t → t.1 ≡ drop (bytes_for (behind_first w) t.0) bytes
many_size w zero bytes t e = let same : ([], bytes) ≡ t = cc e in subst (λ (x : List ℤ × List ℕ). x.1 ≡ drop (bytes_for (behind_first w) x.0) bytes) same refl
many_size w (suc n) bytes t e =
    let first = some_back (read_signed w bytes) (λ x. on_some (many (read_signed w) n x.1) (λ xs. Some (x.0 ∷ xs.0, xs.1))) t e in
    let rest = some_back (many (read_signed w) n first.0.1) (λ xs. Some (first.0.0 ∷ xs.0, xs.1)) t first.2 in
    let same : (first.0.0 ∷ rest.0.0, rest.0.1) ≡ t = cc rest.2 in
    subst (λ (x : List ℤ × List ℕ). x.1 ≡ drop (bytes_for (behind_first w) x.0) bytes) same
    (many_size w n first.0.1 rest.0 rest.1
    ∙ ap (drop (bytes_for (behind_first w) rest.0.0)) (signed_size w bytes first.0 first.1)
    ∙ drop-drop (bytes_for (behind_first w) rest.0.0) (suc (behind_first w)) bytes)

pub plain_size_law : (l : Length) (lie : Lie) (bytes : List ℕ) (x : Plain × List ℕ) → read_plain l lie bytes ≡ Some x → x.1 ≡ drop (plain_size l x.0 lie) bytes
plain_size_law l NoBytes bytes x e = let same : (Bare, bytes) ≡ x = cc e in sym (ap (λ (y : Plain × List ℕ). y.1) same)
plain_size_law l (SignedBy w) bytes x e =
    let r = some_back (read_signed w bytes) (λ n. Some (Signed n.0, n.1)) x e in
    let same : (Signed r.0.0, r.0.1) ≡ x = cc r.2 in
    sym (ap (λ (y : Plain × List ℕ). y.1) same) ∙ signed_size w bytes r.0 r.1
plain_size_law l (UnsignedBy k) bytes x e =
    let r = some_back (read_number k bytes) (λ n. Some (Unsigned n.0, n.1)) x e in
    let same : (Unsigned r.0.0, r.0.1) ≡ x = cc r.2 in
    sym (ap (λ (y : Plain × List ℕ). y.1) same) ∙ number_size k bytes r.0 r.1
plain_size_law l Counted bytes x e =
    let n = some_back (read_number l.count bytes) (λ n. on_some (many (read_signed l.distance) n.0 n.1) (λ t. Some (Distances t.0, t.1))) x e in
    let t = some_back (many (read_signed l.distance) n.0.0 n.0.1) (λ t. Some (Distances t.0, t.1)) x n.2 in
    let same : (Distances t.0.0, t.0.1) ≡ x = cc t.2 in
    subst (λ (y : Plain × List ℕ). y.1 ≡ drop (plain_size l y.0 Counted) bytes) same
    (many_size l.distance n.0.0 n.0.1 t.0 t.1
    ∙ ap (drop (bytes_for (behind_first l.distance) t.0.0)) (number_size l.count bytes n.0 n.1)
    ∙ drop-drop (bytes_for (behind_first l.distance) t.0.0) (suc l.count) bytes)

-- ---- the instruction

abbrev one : ℕ → ℕ
one n = if nat_lt n 65024 then 1 else 2

opcode_law : (bytes : List ℕ) (o : ℕ × List ℕ) → AreBytes bytes → read_opcode bytes ≡ Some o → o.1 ≡ drop (opcode_size o.0) bytes
opcode_law [] o h e = cc e
opcode_law (b ∷ []) o h e = by (nat_eq b 254) e where
  by : (t : Bool) → (if t then None else Some (b, [])) ≡ Some o → o.1 ≡ drop (opcode_size o.0) (b ∷ [])
  by true e = cc e
  by false e =
      let same : (b, []) ≡ o = cc e in
      let small = lt-ltb b 65024 (omega (arith, h 0)) in
      subst (λ (x : ℕ × List ℕ). x.1 ≡ drop (opcode_size x.0) (b ∷ [])) same (ap (λ t. drop (if t then 1 else 2) (b ∷ [])) (sym small))
opcode_law (b ∷ c ∷ rest) o h e = by (nat_eq b 254) e where
  by : (t : Bool) → (if t then Some (65024 + c, rest) else Some (b, c ∷ rest)) ≡ Some o → o.1 ≡ drop (opcode_size o.0) (b ∷ c ∷ rest)
  by true e =
      let same : (65024 + c, rest) ≡ o = cc e in
      let large = le-ltb (65024 + c) 65024 (omega arith) in
      subst (λ (x : ℕ × List ℕ). x.1 ≡ drop (opcode_size x.0) (b ∷ c ∷ rest)) same (ap (λ t. drop (if t then 1 else 2) (b ∷ c ∷ rest)) (sym large))
  by false e =
      let same : (b, c ∷ rest) ≡ o = cc e in
      let small = lt-ltb b 65024 (omega (arith, h 0)) in
      subst (λ (x : ℕ × List ℕ). x.1 ≡ drop (opcode_size x.0) (b ∷ c ∷ rest)) same (ap (λ t. drop (if t then 1 else 2) (b ∷ c ∷ rest)) (sym small))

pub instr_size : (l : Length) (bytes : List ℕ) (x : Instr × List ℕ) → AreBytes bytes → read_instr row_of l bytes ≡ Some x → x.1 ≡ drop (size l x.0) bytes
instr_size l bytes x h e =
    let o = some_back (read_opcode bytes) (λ o. on_some (row_of o.0) (with_row row_of l o.1)) x e in
    let r = some_back (row_of o.0.0) (with_row row_of l o.0.1) x o.2 in
    let p = some_back (read_plain l (lie_of l r.0.operand) o.0.1) (λ p. Some (record { row = r.0; operand = p.0 }, p.1)) x r.2 in
    let same : (record { row = r.0; operand = p.0.0 }, p.0.1) ≡ x = cc p.2 in
    let op = says_opcode o.0.0 r.0 r.1 in
    subst (λ (y : Instr × List ℕ). y.1 ≡ drop (size l y.0) bytes) same
    (plain_size_law l (lie_of l r.0.operand) o.0.1 p.0 p.1
    ∙ ap (drop (plain_size l p.0.0 (lie_of l r.0.operand))) (opcode_law bytes o.0 h o.1)
    ∙ drop-drop (plain_size l p.0.0 (lie_of l r.0.operand)) (opcode_size o.0.0) bytes
    ∙ ap (λ n. drop (opcode_size n + plain_size l p.0.0 (lie_of l r.0.operand)) bytes) (sym op))
