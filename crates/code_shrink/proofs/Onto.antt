-- Bytes that are written one behind the other, and bytes that stay.
use Rattle.std.proofs.Common.{◌≡◌, ℕ, zero, suc, ◌-◌, ◌/◌, ◌%◌, Bool, true, false, List, [], ◌∷◌, ◌++◌, length, Option, refl, sym, ap, ◌∙◌, append_assoc}
use Rattle.std.specs.Prelude.{ℤ, nat_lt, if◌then◌else◌}
use Rattle.std.specs.Int.{Width, cast_unsigned}
use Rattle.cil_opcodes.specs.declared.shape.Row.{Row}
use Rattle.image_bytes.specs.Layout.{all_onto}
use Rattle.image_form.specs.Codes.{number_onto, behind_first, signed_onto, Plain, Bare, Signed, Unsigned, Distances, Lie, NoBytes, SignedBy, UnsignedBy, Counted, Length, lie_of, plain_onto, Instr, opcode_onto, instr_onto, instrs_onto}

pub number_splits : (k n : ℕ) (rest : List ℕ) → number_onto k n rest ≡ number_onto k n [] ++ rest
number_splits zero n rest = refl
number_splits (suc k) n rest = ap (λ (l : List ℕ). n % 256 ∷ l) (number_splits k (n / 256) rest)

pub all_splits : (w : Width) (zs : List ℤ) (rest : List ℕ) → all_onto (signed_onto w) zs rest ≡ all_onto (signed_onto w) zs [] ++ rest
all_splits w [] rest = refl
all_splits w (z ∷ zs) rest =
    let k = behind_first w in
    let n = cast_unsigned w z in
    let more = all_onto (signed_onto w) zs [] in
    number_splits k n (all_onto (signed_onto w) zs rest)
    ∙ ap (λ (l : List ℕ). number_onto k n [] ++ l) (all_splits w zs rest)
    ∙ sym (append_assoc (number_onto k n []) more rest)
    ∙ ap (λ (l : List ℕ). l ++ rest) (sym (number_splits k n more))

plain_splits : (l : Length) (lie : Lie) (p : Plain) (rest : List ℕ) → plain_onto l lie p rest ≡ plain_onto l lie p [] ++ rest
plain_splits l NoBytes Bare rest = refl
plain_splits l NoBytes (Signed z) rest = refl
plain_splits l NoBytes (Unsigned n) rest = refl
plain_splits l NoBytes (Distances to) rest = refl
plain_splits l (SignedBy w) Bare rest = refl
plain_splits l (SignedBy w) (Signed z) rest = number_splits (behind_first w) (cast_unsigned w z) rest
plain_splits l (SignedBy w) (Unsigned n) rest = refl
plain_splits l (SignedBy w) (Distances to) rest = refl
plain_splits l (UnsignedBy k) Bare rest = refl
plain_splits l (UnsignedBy k) (Signed z) rest = refl
plain_splits l (UnsignedBy k) (Unsigned n) rest = number_splits k n rest
plain_splits l (UnsignedBy k) (Distances to) rest = refl
plain_splits l Counted Bare rest = refl
plain_splits l Counted (Signed z) rest = refl
plain_splits l Counted (Unsigned n) rest = refl
plain_splits l Counted (Distances to) rest =
    let n = length to in
    let more = all_onto (signed_onto l.distance) to [] in
    number_splits l.count n (all_onto (signed_onto l.distance) to rest)
    ∙ ap (λ (x : List ℕ). number_onto l.count n [] ++ x) (all_splits l.distance to rest)
    ∙ sym (append_assoc (number_onto l.count n []) more rest)
    ∙ ap (λ (x : List ℕ). x ++ rest) (sym (number_splits l.count n more))

opcode_splits : (o : ℕ) (rest : List ℕ) → opcode_onto o rest ≡ opcode_onto o [] ++ rest
opcode_splits o rest = go (nat_lt o 65024) where
  go : (b : Bool) → (if b then o ∷ rest else 254 ∷ (o - 65024) ∷ rest) ≡ (if b then o ∷ [] else 254 ∷ (o - 65024) ∷ []) ++ rest
  go true = refl
  go false = refl

pub instr_parts : (table : ℕ → Option Row) (l : Length) (i : Instr) → instr_onto table l i [] ≡ opcode_onto i.row.opcode [] ++ plain_onto l (lie_of l i.row.operand) i.operand []
instr_parts table l i = opcode_splits i.row.opcode (plain_onto l (lie_of l i.row.operand) i.operand [])

pub instr_splits : (table : ℕ → Option Row) (l : Length) (i : Instr) (rest : List ℕ) → instr_onto table l i rest ≡ instr_onto table l i [] ++ rest
instr_splits table l i rest =
    let o = opcode_onto i.row.opcode [] in
    let p = plain_onto l (lie_of l i.row.operand) i.operand [] in
    opcode_splits i.row.opcode (plain_onto l (lie_of l i.row.operand) i.operand rest)
    ∙ ap (λ (x : List ℕ). o ++ x) (plain_splits l (lie_of l i.row.operand) i.operand rest)
    ∙ sym (append_assoc o p rest)
    ∙ ap (λ (x : List ℕ). x ++ rest) (sym (instr_parts table l i))

-- behind what is written, one instruction more
pub one_more : (table : ℕ → Option Row) (l : Length) (out whole : List ℕ) (i : Instr) (is : List Instr) → out ++ instrs_onto table l (i ∷ is) [] ≡ whole → (out ++ instr_onto table l i []) ++ instrs_onto table l is [] ≡ whole
one_more table l out whole i is h =
    append_assoc out (instr_onto table l i []) (instrs_onto table l is [])
    ∙ ap (λ (x : List ℕ). out ++ x) (sym (instr_splits table l i (instrs_onto table l is [])))
    ∙ h
