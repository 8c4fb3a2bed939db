-- How many bytes shortened code has, whatever its distances are.
use Rattle.std.proofs.Common.{◌≡◌, ℕ, suc, ◌+◌, ◌-◌, ◌≤◌, Bool, true, false, List, [], ◌∷◌, map, length, length-append, Some, None, refl, arith}
use Rattle.std.specs.Prelude.{ℤ, nat_lt, if◌then◌else◌, slice_get}
use Rattle.std.specs.Int.{Width, w8, w32, w64}
use Rattle.std.specs.List.{flat_map}
use Rattle.cil_opcodes.specs.declared.shape.Operand.{Operand}
use Rattle.cil_opcodes.specs.declared.shape.Operand.TheVariants as kinds
use Rattle.cil_opcodes.specs.Rows.{row_of}
use Rattle.cil_code.specs.Walk.{code_fault}
use Rattle.machine_rename.specs.Places.{AreShorter, Piece}
use Rattle.kept_rows.specs.Select.{select}
use Rattle.assemblies.specs.Closed.{Each}
use Rattle.image_bytes.specs.Layout.{all_onto}
use Rattle.image_form.specs.Codes.{Lie, NoBytes, SignedBy, UnsignedBy, Counted, Plain, Bare, Signed, Unsigned, Distances, Instr, FitsIn, IsSound, behind_first, bytes_for, signed_onto, plain_onto, plain_size, lie_of, opcode_onto, opcode_size, instr_onto, instrs_onto, size, long, short}
use Rattle.std.proofs.lemmas.List.Sums.{sum_by-cons}
use Rattle.image_form.proofs.MeaningLaws.{number_size}
use Rattle.short_code.specs.Short.{to_short, short_end, long_end}
use Rattle.short_code.specs.Pieces.{pieces}
use Rattle.short_code.proofs.PieceLaws.{are_shorter}
use Rattle.code_shrink.specs.Lines.{AreBytes}
use Rattle.code_shrink.specs.Shrunk.{instrs_in, pieces_of, plain_to, instr_to, instrs_from, shrunk_bytes}
use Rattle.code_shrink.proofs.Lie.{all_sound, end_is}
use Rattle.code_shrink.proofs.LineLaws.{same_size}
use Rattle.code_shrink.proofs.Walking.{whole_of}
use Rattle.image_codes.specs.Codes.{short_length, short_lengths}

signed_long : (w : Width) (z : ℤ) (rest : List ℕ) → length (signed_onto w z rest) ≡ suc (behind_first w) + length rest
signed_long w z rest = number_size (behind_first w) _ rest

all_long : (w : Width) (zs : List ℤ) (rest : List ℕ) → length (all_onto (signed_onto w) zs rest) ≡ bytes_for (behind_first w) zs + length rest
all_long w [] rest = omega arith
all_long w (z ∷ zs) rest =
    let first = signed_long w z (all_onto (signed_onto w) zs rest) in
    let later = all_long w zs rest in
    omega (arith, first, later)

-- a number lies as it is
abbrev LiesAs : Lie → Plain → Type 0
LiesAs NoBytes p = Unit {0}
LiesAs (SignedBy w) (Signed z) = Unit {0}
LiesAs (UnsignedBy k) (Unsigned n) = Unit {0}
LiesAs Counted (Distances to) = Unit {0}
LiesAs _ _ = ⊥

plain_long : (l : Lie) (p : Plain) (rest : List ℕ) → LiesAs l p → length (plain_onto short l p rest) ≡ plain_size short p l + length rest
plain_long NoBytes Bare rest lies = omega arith
plain_long NoBytes (Signed z) rest lies = omega arith
plain_long NoBytes (Unsigned n) rest lies = omega arith
plain_long NoBytes (Distances to) rest lies = omega arith
plain_long (SignedBy w) Bare rest lies = absurd lies
plain_long (SignedBy w) (Signed z) rest lies = signed_long w z rest
plain_long (SignedBy w) (Unsigned n) rest lies = absurd lies
plain_long (SignedBy w) (Distances to) rest lies = absurd lies
plain_long (UnsignedBy k) Bare rest lies = absurd lies
plain_long (UnsignedBy k) (Signed z) rest lies = absurd lies
plain_long (UnsignedBy k) (Unsigned n) rest lies = number_size k n rest
plain_long (UnsignedBy k) (Distances to) rest lies = absurd lies
plain_long Counted Bare rest lies = absurd lies
plain_long Counted (Signed z) rest lies = absurd lies
plain_long Counted (Unsigned n) rest lies = absurd lies
plain_long Counted (Distances to) rest lies =
    let count = number_size 0 (length to) (all_onto (signed_onto short.distance) to rest) in
    let all = all_long short.distance to rest in
    omega (arith, count, all)

opcode_long : (o : ℕ) (rest : List ℕ) → length (opcode_onto o rest) ≡ opcode_size o + length rest
opcode_long o rest = by (nat_lt o 65024)
  where
    by : (b : Bool) → length (if b then o ∷ rest else 254 ∷ (o - 65024) ∷ rest) ≡ (if b then 1 else 2) + length rest
    by true = omega arith
    by false = omega arith

module _ (place token : ℕ → ℕ) where
  signed_lies : (w : Width) (p : Plain) → FitsIn long (SignedBy w) p → LiesAs (SignedBy w) p
  signed_lies w Bare f = absurd f
  signed_lies w (Signed z) f = tt
  signed_lies w (Unsigned n) f = absurd f
  signed_lies w (Distances to) f = absurd f

  unsigned_lies : (k : ℕ) (p : Plain) → FitsIn long (UnsignedBy k) p → LiesAs (UnsignedBy k) p
  unsigned_lies k Bare f = absurd f
  unsigned_lies k (Signed z) f = absurd f
  unsigned_lies k (Unsigned n) f = tt
  unsigned_lies k (Distances to) f = absurd f

  lies : (kind : Operand) (next : ℕ) (p : Plain) → FitsIn long (lie_of long kind) p → LiesAs (lie_of short kind) (plain_to place token kind next p)
  lies kinds.Nothing next p f = tt
  lies kinds.Int8 next p f = signed_lies w8 p f
  lies kinds.UInt8 next p f = unsigned_lies 0 p f
  lies kinds.UInt16 next p f = unsigned_lies 1 p f
  lies kinds.Int32 next p f = signed_lies w32 p f
  lies kinds.Int64 next p f = signed_lies w64 p f
  lies kinds.BranchShort next p f = tt
  lies kinds.BranchLong next p f = tt
  lies kinds.Switch next p f = tt
  lies kinds.TypeToken next p f = tt
  lies kinds.FieldToken next p f = tt
  lies kinds.MethodToken next p f = tt
  lies kinds.StringToken next p f = tt
  lies kinds.AnyToken next p f = tt

  instr_long : (next : ℕ) (i : Instr) (rest : List ℕ) → IsSound row_of long i → length (instr_onto row_of short (instr_to place token next i) rest) ≡ size short i + length rest
  instr_long next i rest sound =
      let p = plain_to place token i.row.operand next i.operand in
      let operand = plain_long (lie_of short i.row.operand) p rest (lies i.row.operand next i.operand sound.fits) in
      let opcode = opcode_long i.row.opcode (plain_onto short (lie_of short i.row.operand) p rest) in
      let same = same_size place token next i sound in
      omega (arith, operand, opcode, same)

  instrs_long : (at : ℕ) (is : List Instr) → Each (IsSound row_of long) is → length (instrs_onto row_of short (instrs_from place token at is) []) ≡ short_end (pieces is)
  instrs_long at [] sound = refl
  instrs_long at (i ∷ is) sound =
      let first = instr_long (at + size long i) i (instrs_onto row_of short (instrs_from place token (at + size long i) is) []) sound.0 in
      let later = instrs_long (at + size long i) is sound.1 in
      omega (arith, first, later)

pub shrunk_long : (token : ℕ → ℕ) (code : List ℕ) → AreBytes code → code_fault code ≡ None → length (shrunk_bytes token code) ≡ short_length code
shrunk_long token code bytes fault = instrs_long (to_short (pieces_of code)) token 0 (instrs_in code) (all_sound (length code) code 0 bytes (whole_of code fault) (omega arith))

shorter : {A : Type 0} (xs : List (Piece A)) → AreShorter xs → short_end xs ≤ long_end xs
shorter [] h = omega arith
shorter (x ∷ xs) h = let first = h.1 in let later = shorter xs h.2 in omega (arith, first, later)

-- no more bytes than in the file
pub short_small : (code : List ℕ) → AreBytes code → code_fault code ≡ None → short_length code ≤ length code
short_small code bytes fault =
    let end = end_is (length code) code 0 bytes (whole_of code fault) (omega arith) (omega arith) in
    let less = shorter (pieces_of code) (are_shorter (instrs_in code)) in
    omega (arith, end, less)

-- ---- of all codes

pub selected_each : {A : Type 0} (P : A → Type 0) (keep : ℕ → Bool) (xs : List A) → ((n : ℕ) (x : A) → slice_get xs n ≡ Some x → keep n ≡ true → P x) → Each P (select keep xs)
selected_each P keep [] h = tt
selected_each P keep (x ∷ xs) h = go (keep 0) (h 0 x refl) (selected_each P (λ k. keep (suc k)) xs (λ n y e k. h (suc n) y e k))
  where
    go : (b : Bool) → (b ≡ true → P x) → Each P (select (λ k. keep (suc k)) xs) → Each P (if b then x ∷ select (λ k. keep (suc k)) xs else select (λ k. keep (suc k)) xs)
    go true first later = (first refl, later)
    go false first later = later

pub all_long_codes : (token : ℕ → ℕ) (codes : List (List ℕ)) → Each (λ code. length (shrunk_bytes token code) ≡ short_length code) codes → length (flat_map (λ c. c) (map (shrunk_bytes token) codes)) ≡ short_lengths codes
all_long_codes token [] each = refl
all_long_codes token (code ∷ codes) each =
    let first = each.0 in
    let later = all_long_codes token codes each.1 in
    let sum = length-append (shrunk_bytes token code) (flat_map (λ c. c) (map (shrunk_bytes token) codes)) in
    let total = sum_by-cons short_length code codes in
    omega (arith, first, later, sum, total)
