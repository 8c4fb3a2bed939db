-- The lines of a file's code, with their places and tokens in the image, are code of the image.
use Rattle.std.proofs.Common.{◌≡◌, ℕ, suc, ◌+◌, ◌-◌, Bool, true, false, List, [], ◌∷◌, length, map, refl, sym, ap, ◌∙◌, subst, arith}
use Rattle.std.specs.Prelude.{ℤ, pos, unsigned_abs, nat_lt, if◌then◌else◌}
use Rattle.std.specs.Int.{w8, w16, w32, w64, cast_unsigned}
use Rattle.image_bytes.specs.Layout.{all_onto}
use Rattle.cil_opcodes.specs.declared.shape.Operand.{Operand}
use Rattle.cil_opcodes.specs.declared.shape.Operand.TheVariants as kinds
use Rattle.cil_opcodes.specs.declared.shape.Row.{Row}
use Rattle.cil_opcodes.specs.Rows.{row_of}
use Rattle.assemblies.specs.Rows.{TypeToken, MemberToken, RawOperand, RawTargets, RawLine}
use Rattle.assemblies.specs.Chosen.{Choice, token_to, method_token_to, field_token_to, operand_to, line_to}
use Rattle.assemblies.specs.Closed.{Each}
use Rattle.image_form.specs.Codes.{Plain, Bare, Signed, Unsigned, Distances, Lie, NoBytes, SignedBy, UnsignedBy, Counted, Length, Words, Meaning, Instr, behind_first, bytes_for, signed_onto, lie_of, plain_onto, plain_size, FitsIn, opcode_onto, opcode_size, size, instr_onto, instrs_onto, distance, plain_of, instr_of, instrs_to, AllPlaces, OperandFits, LinesFit, long, short}
use Rattle.image_form.specs.Limits.{TypeIsSmall, MemberIsSmall, OperandIn, LinesIn}
use Rattle.image_form.proofs.MeaningLaws.{number_size, all_size}
use Rattle.short_code.specs.Short.{to_short, long_end, short_end, IsBound}
use Rattle.short_code.specs.Pieces.{pieces}
use Rattle.kept_closure.specs.Named.{InOperand, InLine}
use Rattle.chosen_image.specs.Spells.{TargetsStart, DistancesFit, AllDistancesFit}
use Rattle.chosen_image.proofs.PlaceLaws.{begin, first_bound, behind_first as bound_behind, goes_on, end_is, nearer_fits}

bytes_same : (b : ℕ) (f g h : ℤ → ℤ) (ts : List ℤ) → bytes_for b (map f ts) ≡ bytes_for b (map g (map h ts))
bytes_same b f g h [] = refl
bytes_same b f g h (t ∷ ts) = ap (λ n. suc b + n) (bytes_same b f g h ts)

all_places : (f : ℤ → ℕ) (ts : List ℤ) → AllPlaces (map (λ z. pos (f z)) ts)
all_places f [] = tt
all_places f (t ∷ ts) = (refl, all_places f ts)

-- ---- an instruction has as many bytes as its size says

plain_bytes : (l : Length) (lie : Lie) (p : Plain) (rest : List ℕ) → FitsIn l lie p → length (plain_onto l lie p rest) ≡ plain_size l p lie + length rest
plain_bytes l NoBytes Bare rest h = omega arith
plain_bytes l NoBytes (Signed z) rest h = absurd h
plain_bytes l NoBytes (Unsigned n) rest h = absurd h
plain_bytes l NoBytes (Distances to) rest h = absurd h
plain_bytes l (SignedBy w) Bare rest h = absurd h
plain_bytes l (SignedBy w) (Signed z) rest h = number_size (behind_first w) (cast_unsigned w z) rest
plain_bytes l (SignedBy w) (Unsigned n) rest h = absurd h
plain_bytes l (SignedBy w) (Distances to) rest h = absurd h
plain_bytes l (UnsignedBy k) Bare rest h = absurd h
plain_bytes l (UnsignedBy k) (Signed z) rest h = absurd h
plain_bytes l (UnsignedBy k) (Unsigned n) rest h = number_size k n rest
plain_bytes l (UnsignedBy k) (Distances to) rest h = absurd h
plain_bytes l Counted Bare rest h = absurd h
plain_bytes l Counted (Signed z) rest h = absurd h
plain_bytes l Counted (Unsigned n) rest h = absurd h
plain_bytes l Counted (Distances to) rest h = omega (arith, number_size l.count (length to) (all_onto (signed_onto l.distance) to rest), all_size l.distance to rest)

opcode_bytes : (o : ℕ) (rest : List ℕ) → length (opcode_onto o rest) ≡ opcode_size o + length rest
opcode_bytes o rest = go (nat_lt o 65024)
  where
    go : (b : Bool) → length (if b then o ∷ rest else 254 ∷ (o - 65024) ∷ rest) ≡ (if b then 1 else 2) + length rest
    go true = omega arith
    go false = omega arith

instr_bytes : (l : Length) (i : Instr) (rest : List ℕ) → FitsIn l (lie_of l i.row.operand) i.operand → length (instr_onto row_of l i rest) ≡ size l i + length rest
instr_bytes l i rest h =
    omega (arith, opcode_bytes i.row.opcode (plain_onto l (lie_of l i.row.operand) i.operand rest), plain_bytes l (lie_of l i.row.operand) i.operand rest h)

fits_in : (w : Words) (k : Operand) (next : ℕ) (o : RawOperand) → OperandIn short w k next o → FitsIn short (lie_of short k) (plain_of w k next o)
fits_in w kinds.Nothing next o h = subst (λ o. FitsIn short NoBytes (plain_of w kinds.Nothing next o)) (sym h) tt
fits_in w kinds.Int8 next o h = subst (λ o. FitsIn short (SignedBy w8) (plain_of w kinds.Int8 next o)) (sym h.1) h.2
fits_in w kinds.UInt8 next o h = subst (λ o. FitsIn short (UnsignedBy 0) (plain_of w kinds.UInt8 next o)) (sym h.1) tt
fits_in w kinds.UInt16 next o h = subst (λ o. FitsIn short (UnsignedBy 1) (plain_of w kinds.UInt16 next o)) (sym h.1) tt
fits_in w kinds.Int32 next o h = subst (λ o. FitsIn short (SignedBy w32) (plain_of w kinds.Int32 next o)) (sym h.1) h.2
fits_in w kinds.Int64 next o h = subst (λ o. FitsIn short (SignedBy w64) (plain_of w kinds.Int64 next o)) (sym h.1) h.2
fits_in w kinds.BranchShort next o h = subst (λ o. FitsIn short (SignedBy w8) (plain_of w kinds.BranchShort next o)) (sym h.1) h.2
fits_in w kinds.BranchLong next o h = subst (λ o. FitsIn short (SignedBy w16) (plain_of w kinds.BranchLong next o)) (sym h.1) h.2
fits_in w kinds.Switch next o h = subst (λ o. FitsIn short Counted (plain_of w kinds.Switch next o)) (sym h.1) h.3
fits_in w kinds.TypeToken next o h = subst (λ o. FitsIn short (UnsignedBy 1) (plain_of w kinds.TypeToken next o)) (sym h.1) tt
fits_in w kinds.FieldToken next o h = subst (λ o. FitsIn short (UnsignedBy 1) (plain_of w kinds.FieldToken next o)) (sym h.1) tt
fits_in w kinds.MethodToken next o h = subst (λ o. FitsIn short (UnsignedBy 1) (plain_of w kinds.MethodToken next o)) (sym h.1) tt
fits_in w kinds.StringToken next o h = subst (λ o. FitsIn short (UnsignedBy 1) (plain_of w kinds.StringToken next o)) (sym h.1) tt
fits_in w kinds.AnyToken next o h = subst (λ o. FitsIn short (UnsignedBy 1) (plain_of w kinds.AnyToken next o)) (sym h.1) tt

-- tokens that two bytes can name
module _ (k : Choice) where
  abbrev pub SmallType : TypeToken → Type 0
  SmallType t = TypeIsSmall (token_to k t)

  abbrev pub SmallMethod : MemberToken → Type 0
  SmallMethod t = MemberIsSmall (method_token_to k t)

  abbrev pub SmallField : MemberToken → Type 0
  SmallField t = MemberIsSmall (field_token_to k t)

module _ (k : Choice) (m : Meaning) (w w' : Words) (place : ℕ → ℕ) where
  -- ---- the numbers of tokens and places don't change an instruction's size

  operand_size : (kind : Operand) (next next' : ℕ) (o : RawOperand) → OperandFits row_of long m w kind next o → plain_size short (plain_of w kind next o) (lie_of short kind) ≡ plain_size short (plain_of w' kind next' (operand_to k place o)) (lie_of short kind)
  operand_size kinds.Nothing next next' o h = refl
  operand_size kinds.Int8 next next' o h = refl
  operand_size kinds.UInt8 next next' o h = refl
  operand_size kinds.UInt16 next next' o h = refl
  operand_size kinds.Int32 next next' o h = refl
  operand_size kinds.Int64 next next' o h = refl
  operand_size kinds.BranchShort next next' o h = refl
  operand_size kinds.BranchLong next next' o h = refl
  operand_size kinds.Switch next next' o h =
      subst (λ o. plain_size short (plain_of w kinds.Switch next o) Counted ≡ plain_size short (plain_of w' kinds.Switch next' (operand_to k place o)) Counted) (sym h.1)
      (ap (λ n. 1 + n) (bytes_same 1 (distance next) (distance next') (λ z. pos (place (unsigned_abs z))) h.0))
  operand_size kinds.TypeToken next next' o h = refl
  operand_size kinds.FieldToken next next' o h = refl
  operand_size kinds.MethodToken next next' o h = refl
  operand_size kinds.StringToken next next' o h = refl
  operand_size kinds.AnyToken next next' o h = refl

  instr_size : (row : Row) (line : RawLine) → OperandFits row_of long m w row.operand line.next line.operand → size short (instr_of w row line) ≡ size short (instr_of w' row (line_to k place line))
  instr_size row line h = ap (λ n. opcode_size row.opcode + n) (operand_size row.operand line.next (place line.next) line.operand h)

  -- ---- operands and lines

  module _ (is : List Instr) (places : (at : ℕ) → place at ≡ to_short (pieces is) at) where
    operand_in : (kind : Operand) (next : ℕ) (o : RawOperand) → OperandFits row_of long m w kind next o → InOperand (SmallType k) (SmallMethod k) (SmallField k) o → TargetsStart (pieces is) o → DistancesFit place kind next o → IsBound (pieces is) next → OperandIn short w' kind (place next) (operand_to k place o)
    operand_in kinds.Nothing next o h t s d b = ap (operand_to k place) h
    operand_in kinds.Int8 next o h t s d b = (h.0, ap (operand_to k place) h.1, h.2)
    operand_in kinds.UInt8 next o h t s d b = (h.0, ap (operand_to k place) h.1)
    operand_in kinds.UInt16 next o h t s d b = (h.0, ap (operand_to k place) h.1)
    operand_in kinds.Int32 next o h t s d b = (h.0, ap (operand_to k place) h.1, h.2)
    operand_in kinds.Int64 next o h t s d b = (h.0, ap (operand_to k place) h.1, h.2)
    operand_in kinds.BranchShort next o h t s d b =
        let start : TargetsStart (pieces is) (RawTargets (pos h.0 ∷ [])) = subst (TargetsStart (pieces is)) h.1 s in
        (place h.0, ap (operand_to k place) h.1, nearer_fits is place places w8 next h.0 b start.0.0 h.2)
    operand_in kinds.BranchLong next o h t s d b =
        let fit : DistancesFit place kinds.BranchLong next (RawTargets (pos h.0 ∷ [])) = subst (DistancesFit place kinds.BranchLong next) h.1 d in
        (place h.0, ap (operand_to k place) h.1, fit.0)
    operand_in kinds.Switch next o h t s d b =
        (map (λ z. pos (place (unsigned_abs z))) h.0, ap (operand_to k place) h.1, all_places (λ z. place (unsigned_abs z)) h.0, subst (DistancesFit place kinds.Switch next) h.1 d)
    operand_in kinds.TypeToken next o h t s d b = (token_to k h.0, ap (operand_to k place) h.1, subst (InOperand (SmallType k) (SmallMethod k) (SmallField k)) h.1 t)
    operand_in kinds.FieldToken next o h t s d b = (field_token_to k h.0, ap (operand_to k place) h.1, subst (InOperand (SmallType k) (SmallMethod k) (SmallField k)) h.1 t)
    operand_in kinds.MethodToken next o h t s d b = (method_token_to k h.0, ap (operand_to k place) h.1, subst (InOperand (SmallType k) (SmallMethod k) (SmallField k)) h.1 t)
    operand_in kinds.StringToken next o h t s d b = (h.0, ap (operand_to k place) h.1)
    operand_in kinds.AnyToken next o h t s d b = (field_token_to k h.0, ap (operand_to k place) h.1, subst (InOperand (SmallType k) (SmallMethod k) (SmallField k)) h.1 t)

    lines_from : (at : ℕ) (rows : List Row) (lines : List RawLine) → LinesFit row_of long m w at rows lines
        → ((y : ℕ) → IsBound (pieces (instrs_to w rows lines)) y → IsBound (pieces is) (at + y))
        → ((y : ℕ) → place (at + y) ≡ place at + to_short (pieces (instrs_to w rows lines)) y)
        → Each (InLine (SmallType k) (SmallMethod k) (SmallField k)) lines → Each (λ (l : RawLine). TargetsStart (pieces is) l.operand) lines → AllDistancesFit place rows lines
        → LinesIn short w' (place at) rows (map (line_to k place) lines)
    lines_from at [] [] h bound on t s d = tt
    lines_from at [] (line ∷ lines) h bound on t s d = absurd h
    lines_from at (row ∷ rows) [] h bound on t s d = absurd h
    lines_from at (row ∷ rows) (line ∷ lines) h bound on t s d =
        let i = instr_of w row line in
        let rest = instrs_to w rows lines in
        let L = size long i in
        let S = size short i in
        let off : L + 0 ≡ L = omega arith in
        let whole : S + 0 ≡ S = omega arith in
        let next_bound : IsBound (pieces is) line.next = subst (IsBound (pieces is)) (sym h.0.next) (bound L (subst (IsBound (pieces (i ∷ rest))) off (bound_behind i rest 0 (first_bound rest)))) in
        let step : place (at + L) ≡ place at + S = on L ∙ ap (λ n. place at + n) (ap (to_short (pieces (i ∷ rest))) (sym off) ∙ goes_on i rest 0 ∙ ap (λ n. S + n) (begin rest) ∙ whole) in
        let same : place (at + L) ≡ place at + size short (instr_of w' row (line_to k place line)) = step ∙ ap (λ n. place at + n) (instr_size row line h.0.operand) in (
          record {
            known = h.0.known;
            plain = h.0.plain;
            shape = h.0.shape;
            place = ap place h.0.place;
            next = ap place h.0.next ∙ same;
            operand = operand_in row.operand line.next line.operand h.0.operand t.0 s.0 d.0 next_bound;
          },
          subst (λ n. LinesIn short w' n rows (map (line_to k place) lines)) same
              (lines_from (at + L) rows lines h.1
              (λ y b. let sum : at + (L + y) ≡ at + L + y = omega arith in subst (IsBound (pieces is)) sum (bound (L + y) (bound_behind i rest y b)))
              (λ y. let sum : at + L + y ≡ at + (L + y) = omega arith in omega (arith, ap place sum, on (L + y), goes_on i rest y, step))
              t.1 s.1 d.1),
        )

  pub lines_law : (rows : List Row) (lines : List RawLine) → ((at : ℕ) → place at ≡ to_short (pieces (instrs_to w rows lines)) at) → LinesFit row_of long m w 0 rows lines → Each (InLine (SmallType k) (SmallMethod k) (SmallField k)) lines → Each (λ (l : RawLine). TargetsStart (pieces (instrs_to w rows lines)) l.operand) lines → AllDistancesFit place rows lines → LinesIn short w' 0 rows (map (line_to k place) lines)
  lines_law rows lines places h t s d =
      let is = instrs_to w rows lines in
      let start : place 0 ≡ 0 = places 0 ∙ begin is in
      subst (λ n. LinesIn short w' n rows (map (line_to k place) lines)) start
      (lines_from is places 0 rows lines h
      (λ y b. let sum : y ≡ 0 + y = omega arith in subst (IsBound (pieces is)) sum b)
      (λ y. let sum : 0 + y ≡ y = omega arith in omega (arith, ap place sum, places y, start))
      t s d)

  -- ---- the image's code ends where the file's does

  code_bytes_from : (at : ℕ) (at' : ℕ) (rows : List Row) (lines : List RawLine) → LinesFit row_of long m w at rows lines → LinesIn short w' at' rows (map (line_to k place) lines) → length (instrs_onto row_of short (instrs_to w' rows (map (line_to k place) lines)) []) ≡ short_end (pieces (instrs_to w rows lines))
  code_bytes_from at at' [] [] h g = refl
  code_bytes_from at at' [] (line ∷ lines) h g = absurd h
  code_bytes_from at at' (row ∷ rows) [] h g = absurd h
  code_bytes_from at at' (row ∷ rows) (line ∷ lines) h g =
      let i' = instr_of w' row (line_to k place line) in
      let tail = instrs_onto row_of short (instrs_to w' rows (map (line_to k place) lines)) [] in
      omega (arith, instr_bytes short i' tail (fits_in w' row.operand (place line.next) (operand_to k place line.operand) g.0.operand), instr_size row line h.0.operand, code_bytes_from (at + size long (instr_of w row line)) (at' + size short i') rows lines h.1 g.1)

  pub code_bytes_law : (rows : List Row) (lines : List RawLine) → ((at : ℕ) → place at ≡ to_short (pieces (instrs_to w rows lines)) at) → LinesFit row_of long m w 0 rows lines → LinesIn short w' 0 rows (map (line_to k place) lines) → length (instrs_onto row_of short (instrs_to w' rows (map (line_to k place) lines)) []) ≡ place (long_end (pieces (instrs_to w rows lines)))
  code_bytes_law rows lines places h g = code_bytes_from 0 0 rows lines h g ∙ sym (places (long_end (pieces (instrs_to w rows lines))) ∙ end_is (instrs_to w rows lines))
