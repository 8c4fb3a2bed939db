-- The lines of an instruction's numbers are those that the numbers were made of.
use Rattle.std.proofs.Common.{◌≡◌, ℕ, zero, suc, ◌+◌, ◌/◌, subst, List, [], ◌∷◌, length, map, Option, refl, sym, ap, ◌∙◌, arith}
use Rattle.std.specs.Prelude.{ℤ, pos, ◌+ℤ◌, ◌-ℤ◌, unsigned_abs}
use Rattle.std.specs.Int.{Width, w8, w32, w64, cast_unsigned}
use Rattle.std.proofs.lemmas.Int.{ints}
use Rattle.cil_opcodes.specs.declared.shape.Operand.{Operand}
use Rattle.cil_opcodes.specs.declared.shape.Operand.TheVariants as kinds
use Rattle.cil_opcodes.specs.declared.shape.Shape.{Shape}
use Rattle.cil_opcodes.specs.declared.shape.Row.{Row}
use Rattle.image_bytes.specs.Layout.{all_onto}
use Rattle.assemblies.specs.Rows.{RawOperand, RawTargets, RawTypeOf, RawField, RawMethod, RawLine}
use Rattle.image_form.specs.Codes.{number_onto, behind_first, bytes_for, signed_onto, NoBytes, SignedBy, UnsignedBy, Counted, Length, lie_of, FitsIn, size, instrs_of, instrs_onto, IsSound, Meaning, Words, target, text_operand, distance, operand_of, line_of, lines_of, plain_of, instr_of, instrs_to, AllPlaces, OperandFits, LineFits, LinesFit}
use Rattle.image_form.proofs.CodeLaws.{instrs_law}
use Rattle.assemblies.specs.Closed.{Each}

target_law : (next n : ℕ) → target next (distance next (pos n)) ≡ pos n
target_law next n = omega (arith, ints)

targets_law : (next : ℕ) (ts : List ℤ) → AllPlaces ts → map (target next) (map (distance next) ts) ≡ ts
targets_law next [] h = refl
targets_law next (t ∷ ts) h =
    ap (λ z. target next (distance next z) ∷ map (target next) (map (distance next) ts)) (sym h.0)
    ∙ ap (λ z. z ∷ map (target next) (map (distance next) ts)) (target_law next (unsigned_abs t) ∙ h.0)
    ∙ ap (λ zs. t ∷ zs) (targets_law next ts h.1)

module _ (table : ℕ → Option Row) (l : Length) (m : Meaning) (w : Words) where
  pub operand_law : (k : Operand) (next : ℕ) (o : RawOperand) → OperandFits table l m w k next o → operand_of m k next (plain_of w k next o) ≡ o
  operand_law kinds.Nothing next o h = sym h
  operand_law kinds.Int8 next o h = ap (λ o. operand_of m kinds.Int8 next (plain_of w kinds.Int8 next o)) h.1 ∙ sym h.1
  operand_law kinds.UInt8 next o h = ap (λ o. operand_of m kinds.UInt8 next (plain_of w kinds.UInt8 next o)) h.1 ∙ sym h.1
  operand_law kinds.UInt16 next o h = ap (λ o. operand_of m kinds.UInt16 next (plain_of w kinds.UInt16 next o)) h.1 ∙ sym h.1
  operand_law kinds.Int32 next o h = ap (λ o. operand_of m kinds.Int32 next (plain_of w kinds.Int32 next o)) h.1 ∙ sym h.1
  operand_law kinds.Int64 next o h = ap (λ o. operand_of m kinds.Int64 next (plain_of w kinds.Int64 next o)) h.1 ∙ sym h.1
  operand_law kinds.BranchShort next o h =
      ap (λ o. operand_of m kinds.BranchShort next (plain_of w kinds.BranchShort next o)) h.1 ∙ ap (λ z. RawTargets (z ∷ [])) (target_law next h.0) ∙ sym h.1
  operand_law kinds.BranchLong next o h =
      ap (λ o. operand_of m kinds.BranchLong next (plain_of w kinds.BranchLong next o)) h.1 ∙ ap (λ z. RawTargets (z ∷ [])) (target_law next h.0) ∙ sym h.1
  operand_law kinds.Switch next o h =
      ap (λ o. operand_of m kinds.Switch next (plain_of w kinds.Switch next o)) h.1 ∙ ap RawTargets (targets_law next h.0 h.2) ∙ sym h.1
  operand_law kinds.TypeToken next o h =
      ap (λ o. operand_of m kinds.TypeToken next (plain_of w kinds.TypeToken next o)) h.1 ∙ ap RawTypeOf h.2 ∙ sym h.1
  operand_law kinds.FieldToken next o h =
      ap (λ o. operand_of m kinds.FieldToken next (plain_of w kinds.FieldToken next o)) h.1 ∙ ap RawField h.2 ∙ sym h.1
  operand_law kinds.MethodToken next o h =
      ap (λ o. operand_of m kinds.MethodToken next (plain_of w kinds.MethodToken next o)) h.1 ∙ ap RawMethod h.2 ∙ sym h.1
  operand_law kinds.StringToken next o h =
      ap (λ o. operand_of m kinds.StringToken next (plain_of w kinds.StringToken next o)) h.1 ∙ ap text_operand h.2 ∙ sym h.1
  operand_law kinds.AnyToken next o h =
      ap (λ o. operand_of m kinds.AnyToken next (plain_of w kinds.AnyToken next o)) h.1 ∙ ap RawField h.2 ∙ sym h.1

  pub fits_law : (k : Operand) (next : ℕ) (o : RawOperand) → OperandFits table l m w k next o → FitsIn l (lie_of l k) (plain_of w k next o)
  fits_law kinds.Nothing next o h = subst (λ o. FitsIn l NoBytes (plain_of w kinds.Nothing next o)) (sym h) tt
  fits_law kinds.Int8 next o h = subst (λ o. FitsIn l (SignedBy w8) (plain_of w kinds.Int8 next o)) (sym h.1) h.2
  fits_law kinds.UInt8 next o h = subst (λ o. FitsIn l (UnsignedBy 0) (plain_of w kinds.UInt8 next o)) (sym h.1) tt
  fits_law kinds.UInt16 next o h = subst (λ o. FitsIn l (UnsignedBy 1) (plain_of w kinds.UInt16 next o)) (sym h.1) tt
  fits_law kinds.Int32 next o h = subst (λ o. FitsIn l (SignedBy w32) (plain_of w kinds.Int32 next o)) (sym h.1) h.2
  fits_law kinds.Int64 next o h = subst (λ o. FitsIn l (SignedBy w64) (plain_of w kinds.Int64 next o)) (sym h.1) h.2
  fits_law kinds.BranchShort next o h = subst (λ o. FitsIn l (SignedBy w8) (plain_of w kinds.BranchShort next o)) (sym h.1) h.2
  fits_law kinds.BranchLong next o h = subst (λ o. FitsIn l (SignedBy l.distance) (plain_of w kinds.BranchLong next o)) (sym h.1) h.2
  fits_law kinds.Switch next o h = subst (λ o. FitsIn l Counted (plain_of w kinds.Switch next o)) (sym h.1) h.3
  fits_law kinds.TypeToken next o h = subst (λ o. FitsIn l (UnsignedBy l.token) (plain_of w kinds.TypeToken next o)) (sym h.1) tt
  fits_law kinds.FieldToken next o h = subst (λ o. FitsIn l (UnsignedBy l.token) (plain_of w kinds.FieldToken next o)) (sym h.1) tt
  fits_law kinds.MethodToken next o h = subst (λ o. FitsIn l (UnsignedBy l.token) (plain_of w kinds.MethodToken next o)) (sym h.1) tt
  fits_law kinds.StringToken next o h = subst (λ o. FitsIn l (UnsignedBy l.token) (plain_of w kinds.StringToken next o)) (sym h.1) tt
  fits_law kinds.AnyToken next o h = subst (λ o. FitsIn l (UnsignedBy l.token) (plain_of w kinds.AnyToken next o)) (sym h.1) tt

  line_law : (at : ℕ) (row : Row) (line : RawLine) → LineFits table l m w at row line → line_of m l at (instr_of w row line) ≡ line
  line_law at row line h =
      let make : ℕ → Shape → RawOperand → ℕ → RawLine = λ at s o next. record { at = at; shape = s; operand = o; next = next } in
      let p = plain_of w row.operand line.next line.operand in
      ap (λ n. make at row.shape (operand_of m row.operand n p) n) (sym h.next)
      ∙ ap (λ s. make at s (operand_of m row.operand line.next p) line.next) h.shape
      ∙ ap (λ o. make at line.shape o line.next) (operand_law row.operand line.next line.operand h.operand)
      ∙ ap (λ n. make n line.shape line.operand line.next) (sym h.place)

  pub lines_law : (at : ℕ) (rows : List Row) (lines : List RawLine) → LinesFit table l m w at rows lines → lines_of m l at (instrs_to w rows lines) ≡ lines
  lines_law at [] [] h = refl
  lines_law at [] (line ∷ lines) h = absurd h
  lines_law at (row ∷ rows) [] h = absurd h
  lines_law at (row ∷ rows) (line ∷ lines) h =
      ap (λ x. x ∷ lines_of m l (at + size l (instr_of w row line)) (instrs_to w rows lines)) (line_law at row line h.0)
      ∙ ap (λ xs. line ∷ xs) (lines_law (at + size l (instr_of w row line)) rows lines h.1)

  pub sound_law : (at : ℕ) (rows : List Row) (lines : List RawLine) → LinesFit table l m w at rows lines → Each (IsSound table l) (instrs_to w rows lines)
  sound_law at [] [] h = tt
  sound_law at [] (line ∷ lines) h = absurd h
  sound_law at (row ∷ rows) [] h = absurd h
  sound_law at (row ∷ rows) (line ∷ lines) h =
      (record { known = h.0.known; plain = h.0.plain; fits = fits_law row.operand line.next line.operand h.0.operand }, sound_law (at + size l (instr_of w row line)) rows lines h.1)

  -- the whole: lines, spelt as bytes, are read as those lines
  pub code_law : (rows : List Row) (lines : List RawLine) → LinesFit table l m w 0 rows lines → lines_of m l 0 (instrs_of table l (instrs_onto table l (instrs_to w rows lines) [])) ≡ lines
  code_law rows lines h =
      ap (lines_of m l 0) (instrs_law table l (instrs_to w rows lines) (sound_law 0 rows lines h)) ∙ lines_law 0 rows lines h

-- ---- an instruction's size is the number of its bytes

pub number_size : (k n : ℕ) (rest : List ℕ) → length (number_onto k n rest) ≡ suc k + length rest
number_size zero n rest = omega arith
number_size (suc k) n rest = omega (arith, number_size k (n / 256) rest)

pub all_size : (w : Width) (zs : List ℤ) (rest : List ℕ) → length (all_onto (signed_onto w) zs rest) ≡ bytes_for (behind_first w) zs + length rest
all_size w [] rest = omega arith
all_size w (z ∷ zs) rest = omega (arith, number_size (behind_first w) (cast_unsigned w z) (all_onto (signed_onto w) zs rest), all_size w zs rest)
