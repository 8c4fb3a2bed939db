-- The lines of a file's code have a spelling in the image, and it is the shortened code.
use Rattle.std.proofs.Common.{◌≡◌, ⊎_elim, inl, inr, ℕ, suc, ◌+◌, ◌-◌, ◌≤◌, List, [], ◌∷◌, map, Option, None, refl, sym, ap, ◌∙◌, subst, arith}
use Rattle.std.specs.Prelude.{ℤ, pos, unsigned_abs, nat_lt, if◌then◌else◌}
use Rattle.std.specs.Int.{Width, w8, w16, w32}
use Rattle.std.specs.Int.RustNames.{FitsSigned}
use Rattle.std.proofs.lemmas.Int.{ints}
use Rattle.cil_opcodes.specs.declared.shape.Operand.{Operand}
use Rattle.cil_opcodes.specs.declared.shape.Operand.TheVariants as kinds
use Rattle.cil_opcodes.specs.declared.shape.Row.{Row}
use Rattle.cil_opcodes.specs.Rows.{row_of}
use Rattle.machine_rename.specs.Places.{Piece}
use Rattle.assemblies.specs.Rows.{RawTargets, RawLine}
use Rattle.assemblies.specs.Chosen.{Choice, operand_to, line_to}
use Rattle.assemblies.specs.Closed.{Each}
use Rattle.image_form.specs.Codes.{Plain, Bare, Signed, Unsigned, Distances, Meaning, Words, target, distance, number_of, distances_of, bytes_for, opcode_size, plain_size, FitsIn, AllFit, Instr, IsSound, size, lie_of, operand_of, plain_of, instr_of, instrs_to, line_of, lines_of, text_operand, AllPlaces, OperandFits, LinesFit, long, short}
use Rattle.short_code.specs.Short.{to_short, IsBound}
use Rattle.short_code.specs.Pieces.{pieces}
use Rattle.chosen_image.specs.Spells.{TargetsStart, DistancesFit, AllDistancesFit}
use Rattle.code_shrink.specs.Shrunk.{targets_of, IsTarget, AreTargets, moved, plain_to, instr_to, instrs_from}
use Rattle.code_shrink.specs.Limits.{first_far, wide_distances, far_from}
use Rattle.code_shrink.specs.Lines.{MeansBack, AllMeanBack, IsNumbered, AllNumbered}
use Rattle.code_shrink.proofs.Lie.{all_near, or_none}

abbrev pub rows_of : List Instr → List Row
rows_of is = map (λ i. i.row) is

there : (next : ℕ) (d : ℤ) → distance next (target next d) ≡ d
there next d = omega (arith, ints)

all_there : (w : Width) (next : ℕ) (ds : List ℤ) → AllFit w ds → AllFit w (map (distance next) (map (target next) ds))
all_there w next [] h = tt
all_there w next (d ∷ ds) h = (subst (FitsSigned w) (sym (there next d)) h.0, all_there w next ds h.1)

same_count : (b next : ℕ) (ds : List ℤ) → bytes_for b (map (distance next) (map (target next) ds)) ≡ bytes_for b ds
same_count b next [] = refl
same_count b next (d ∷ ds) = ap (λ (n : ℕ). suc b + n) (same_count b next ds)

all_places : (xs : List (Piece Instr)) (zs : List ℤ) → Each (IsTarget xs) zs → AllPlaces zs
all_places xs [] h = tt
all_places xs (z ∷ zs) h = (h.0.1, all_places xs zs h.1)

module _ (m : Meaning) (w : Words) where
  -- ---- sizes don't rest on numbers

  long_size : (kind : Operand) (next : ℕ) (p : Plain) → FitsIn long (lie_of long kind) p → plain_size long (plain_of w kind next (operand_of m kind next p)) (lie_of long kind) ≡ plain_size long p (lie_of long kind)
  long_size kinds.Nothing next p f = refl
  long_size kinds.Int8 next p f = refl
  long_size kinds.UInt8 next p f = refl
  long_size kinds.UInt16 next p f = refl
  long_size kinds.Int32 next p f = refl
  long_size kinds.Int64 next p f = refl
  long_size kinds.BranchShort next p f = refl
  long_size kinds.BranchLong next p f = refl
  long_size kinds.Switch next Bare f = absurd f
  long_size kinds.Switch next (Signed z) f = absurd f
  long_size kinds.Switch next (Unsigned n) f = absurd f
  long_size kinds.Switch next (Distances ds) f = ap (λ (n : ℕ). 4 + n) (same_count 3 next ds)
  long_size kinds.TypeToken next p f = refl
  long_size kinds.FieldToken next p f = refl
  long_size kinds.MethodToken next p f = refl
  long_size kinds.StringToken next p f = refl
  long_size kinds.AnyToken next p f = refl

  short_size : (kind : Operand) (next : ℕ) (p : Plain) → FitsIn long (lie_of long kind) p → plain_size short (plain_of w kind next (operand_of m kind next p)) (lie_of short kind) ≡ plain_size short p (lie_of short kind)
  short_size kinds.Nothing next p f = refl
  short_size kinds.Int8 next p f = refl
  short_size kinds.UInt8 next p f = refl
  short_size kinds.UInt16 next p f = refl
  short_size kinds.Int32 next p f = refl
  short_size kinds.Int64 next p f = refl
  short_size kinds.BranchShort next p f = refl
  short_size kinds.BranchLong next p f = refl
  short_size kinds.Switch next Bare f = absurd f
  short_size kinds.Switch next (Signed z) f = absurd f
  short_size kinds.Switch next (Unsigned n) f = absurd f
  short_size kinds.Switch next (Distances ds) f = ap (λ (n : ℕ). 1 + n) (same_count 1 next ds)
  short_size kinds.TypeToken next p f = refl
  short_size kinds.FieldToken next p f = refl
  short_size kinds.MethodToken next p f = refl
  short_size kinds.StringToken next p f = refl
  short_size kinds.AnyToken next p f = refl

  abbrev again : ℕ → List Instr → List Instr
  again at is = instrs_to w (rows_of is) (lines_of m long at is)

  long_again : (at : ℕ) (i : Instr) → IsSound row_of long i → size long (instr_of w i.row (line_of m long at i)) ≡ size long i
  long_again at i h = ap (λ (n : ℕ). opcode_size i.row.opcode + n) (long_size i.row.operand (at + size long i) i.operand h.fits)

  short_again : (at : ℕ) (i : Instr) → IsSound row_of long i → size short (instr_of w i.row (line_of m long at i)) ≡ size short i
  short_again at i h = ap (λ (n : ℕ). opcode_size i.row.opcode + n) (short_size i.row.operand (at + size long i) i.operand h.fits)

  pub short_same : (at : ℕ) (is : List Instr) (y : ℕ) → Each (IsSound row_of long) is → to_short (pieces (again at is)) y ≡ to_short (pieces is) y
  short_same at [] y h = refl
  short_same at (i ∷ is) y h =
      let l = long_again at i h.0 in
      let s = short_again at i h.0 in
      ap (λ (n : ℕ). if nat_lt y n then 0 else size short (instr_of w i.row (line_of m long at i)) + to_short (pieces (again (at + size long i) is)) (y - n)) l
      ∙ ap (λ (n : ℕ). if nat_lt y (size long i) then 0 else n + to_short (pieces (again (at + size long i) is)) (y - size long i)) s
      ∙ ap (λ (n : ℕ). if nat_lt y (size long i) then 0 else size short i + n) (short_same (at + size long i) is (y - size long i) h.1)

  bound_same : (at : ℕ) (is : List Instr) (y : ℕ) → Each (IsSound row_of long) is → IsBound (pieces is) y → IsBound (pieces (again at is)) y
  bound_same at [] y h b = b
  bound_same at (i ∷ is) y h b =
      ⊎_elim
      (λ (z : y ≡ 0). inl z)
      (λ (p : (size long i ≤ y) × IsBound (pieces is) (y - size long i)).
      let l = long_again at i h.0 in
      let L = size long (instr_of w i.row (line_of m long at i)) in
      let le : L ≤ y = omega (arith, l, p.0) in
      let off : y - size long i ≡ y - L = omega (arith, l) in
      inr (le, subst (IsBound (pieces (again (at + size long i) is))) off (bound_same (at + size long i) is (y - size long i) h.1 p.1)))
      b

  -- ---- the lines are read in the file's code

  operand_fits : (xs : List (Piece Instr)) (kind : Operand) (next : ℕ) (p : Plain) → FitsIn long (lie_of long kind) p → Each (IsTarget xs) (targets_of kind next p) → MeansBack m w kind (unsigned_abs (number_of p)) → OperandFits row_of long m w kind next (operand_of m kind next p)
  operand_fits xs kinds.Nothing next p f t b = refl
  operand_fits xs kinds.Int8 next Bare f t b = absurd f
  operand_fits xs kinds.Int8 next (Signed z) f t b = (z, refl, f)
  operand_fits xs kinds.Int8 next (Unsigned n) f t b = absurd f
  operand_fits xs kinds.Int8 next (Distances ds) f t b = absurd f
  operand_fits xs kinds.UInt8 next Bare f t b = absurd f
  operand_fits xs kinds.UInt8 next (Signed z) f t b = absurd f
  operand_fits xs kinds.UInt8 next (Unsigned n) f t b = (n, refl)
  operand_fits xs kinds.UInt8 next (Distances ds) f t b = absurd f
  operand_fits xs kinds.UInt16 next Bare f t b = absurd f
  operand_fits xs kinds.UInt16 next (Signed z) f t b = absurd f
  operand_fits xs kinds.UInt16 next (Unsigned n) f t b = (n, refl)
  operand_fits xs kinds.UInt16 next (Distances ds) f t b = absurd f
  operand_fits xs kinds.Int32 next Bare f t b = absurd f
  operand_fits xs kinds.Int32 next (Signed z) f t b = (z, refl, f)
  operand_fits xs kinds.Int32 next (Unsigned n) f t b = absurd f
  operand_fits xs kinds.Int32 next (Distances ds) f t b = absurd f
  operand_fits xs kinds.Int64 next Bare f t b = absurd f
  operand_fits xs kinds.Int64 next (Signed z) f t b = (z, refl, f)
  operand_fits xs kinds.Int64 next (Unsigned n) f t b = absurd f
  operand_fits xs kinds.Int64 next (Distances ds) f t b = absurd f
  operand_fits xs kinds.BranchShort next Bare f t b = absurd f
  operand_fits xs kinds.BranchShort next (Signed d) f t b =
      (unsigned_abs (target next d), ap (λ (z : ℤ). RawTargets (z ∷ [])) (sym t.0.1), subst (FitsSigned w8) (sym (ap (distance next) t.0.1 ∙ there next d)) f)
  operand_fits xs kinds.BranchShort next (Unsigned n) f t b = absurd f
  operand_fits xs kinds.BranchShort next (Distances ds) f t b = absurd f
  operand_fits xs kinds.BranchLong next Bare f t b = absurd f
  operand_fits xs kinds.BranchLong next (Signed d) f t b =
      (unsigned_abs (target next d), ap (λ (z : ℤ). RawTargets (z ∷ [])) (sym t.0.1), subst (FitsSigned w32) (sym (ap (distance next) t.0.1 ∙ there next d)) f)
  operand_fits xs kinds.BranchLong next (Unsigned n) f t b = absurd f
  operand_fits xs kinds.BranchLong next (Distances ds) f t b = absurd f
  operand_fits xs kinds.Switch next Bare f t b = absurd f
  operand_fits xs kinds.Switch next (Signed z) f t b = absurd f
  operand_fits xs kinds.Switch next (Unsigned n) f t b = absurd f
  operand_fits xs kinds.Switch next (Distances ds) f t b = (map (target next) ds, refl, all_places xs (map (target next) ds) t, all_there w32 next ds f)
  operand_fits xs kinds.TypeToken next p f t b = (m.type (unsigned_abs (number_of p)), refl, b)
  operand_fits xs kinds.FieldToken next p f t b = (m.field (unsigned_abs (number_of p)), refl, b)
  operand_fits xs kinds.MethodToken next p f t b = (m.method (unsigned_abs (number_of p)), refl, b)
  operand_fits xs kinds.StringToken next p f t b = (b.0, ap text_operand b.1, b.2)
  operand_fits xs kinds.AnyToken next p f t b = (m.field (unsigned_abs (number_of p)), refl, b)

  pub lines_fit : (xs : List (Piece Instr)) (at : ℕ) (is : List Instr) → Each (IsSound row_of long) is → AreTargets xs at is → AllMeanBack m w is → LinesFit row_of long m w at (rows_of is) (lines_of m long at is)
  lines_fit xs at [] h t b = tt
  lines_fit xs at (i ∷ is) h t b =
      let next = at + size long i in
      let same : at + size long (instr_of w i.row (line_of m long at i)) ≡ next = ap (λ (n : ℕ). at + n) (long_again at i h.0) in (
        record {
          known = h.0.known;
          plain = h.0.plain;
          shape = refl;
          place = refl;
          next = sym same;
          operand = operand_fits xs i.row.operand next i.operand h.0.fits t.0 b.0;
        },
        subst (λ n. LinesFit row_of long m w n (rows_of is) (lines_of m long next is)) (sym same) (lines_fit xs next is h.1 t.1 b.1),
      )

  -- ---- targets

  targets_again : (xs ys : List (Piece Instr)) (zs : List ℤ) → ((y : ℕ) → IsBound xs y → IsBound ys y) → Each (IsTarget xs) zs → Each (IsTarget ys) zs
  targets_again xs ys [] f h = tt
  targets_again xs ys (z ∷ zs) f h = ((f (unsigned_abs z) h.0.0, h.0.1), targets_again xs ys zs f h.1)

  operand_starts : (ys : List (Piece Instr)) (kind : Operand) (next : ℕ) (p : Plain) → Each (IsTarget ys) (targets_of kind next p) → MeansBack m w kind (unsigned_abs (number_of p)) → TargetsStart ys (operand_of m kind next p)
  operand_starts ys kinds.Nothing next p t b = tt
  operand_starts ys kinds.Int8 next p t b = tt
  operand_starts ys kinds.UInt8 next p t b = tt
  operand_starts ys kinds.UInt16 next p t b = tt
  operand_starts ys kinds.Int32 next p t b = tt
  operand_starts ys kinds.Int64 next p t b = tt
  operand_starts ys kinds.BranchShort next p t b = t
  operand_starts ys kinds.BranchLong next p t b = t
  operand_starts ys kinds.Switch next p t b = t
  operand_starts ys kinds.TypeToken next p t b = tt
  operand_starts ys kinds.FieldToken next p t b = tt
  operand_starts ys kinds.MethodToken next p t b = tt
  operand_starts ys kinds.StringToken next p t b = subst (λ (o : Option (List ℕ)). TargetsStart ys (text_operand o)) (sym b.1) tt
  operand_starts ys kinds.AnyToken next p t b = tt

  starts_from : (xs ys : List (Piece Instr)) (at : ℕ) (is : List Instr) → ((y : ℕ) → IsBound xs y → IsBound ys y) → AreTargets xs at is → AllMeanBack m w is → Each (λ (l : RawLine). TargetsStart ys l.operand) (lines_of m long at is)
  starts_from xs ys at [] f t b = tt
  starts_from xs ys at (i ∷ is) f t b =
      let next = at + size long i in
      (operand_starts ys i.row.operand next i.operand (targets_again xs ys (targets_of i.row.operand next i.operand) f t.0) b.0, starts_from xs ys next is f t.1 b.1)

  pub targets_start : (is : List Instr) → Each (IsSound row_of long) is → AreTargets (pieces is) 0 is → AllMeanBack m w is → Each (λ (l : RawLine). TargetsStart (pieces (again 0 is)) l.operand) (lines_of m long 0 is)
  targets_start is h t b = starts_from (pieces is) (pieces (again 0 is)) 0 is (λ y q. bound_same 0 is y h q) t b

-- ---- distances

module _ (m : Meaning) (place : ℕ → ℕ) where
  all_in : (next : ℕ) (ds : List ℤ) → AllFit w16 (map (moved place next) ds) → AllFit w16 (map (distance (place next)) (map (λ z. pos (place (unsigned_abs z))) (map (target next) ds)))
  all_in next [] h = tt
  all_in next (d ∷ ds) h = (h.0, all_in next ds h.1)

  distances_in : (kind : Operand) (next : ℕ) (p : Plain) → first_far (wide_distances place kind next p) ≡ None → DistancesFit place kind next (operand_of m kind next p)
  distances_in kinds.Nothing next p e = tt
  distances_in kinds.Int8 next p e = tt
  distances_in kinds.UInt8 next p e = tt
  distances_in kinds.UInt16 next p e = tt
  distances_in kinds.Int32 next p e = tt
  distances_in kinds.Int64 next p e = tt
  distances_in kinds.BranchShort next p e = tt
  distances_in kinds.BranchLong next p e = all_in next (distances_of p) (all_near (map (moved place next) (distances_of p)) e)
  distances_in kinds.Switch next p e = all_in next (distances_of p) (all_near (map (moved place next) (distances_of p)) e)
  distances_in kinds.TypeToken next p e = tt
  distances_in kinds.FieldToken next p e = tt
  distances_in kinds.MethodToken next p e = tt
  distances_in kinds.StringToken next p e = tt
  distances_in kinds.AnyToken next p e = tt

  pub distances_fit : (at : ℕ) (is : List Instr) → far_from place at is ≡ None → AllDistancesFit place (rows_of is) (lines_of m long at is)
  distances_fit at [] e = tt
  distances_fit at (i ∷ is) e =
      let next = at + size long i in
      let f = or_none (first_far (wide_distances place i.row.operand next i.operand)) (far_from place next is) e in
      (distances_in i.row.operand next i.operand f.0, distances_fit next is f.1)

-- ---- the spelling

module _ (k : Choice) (m : Meaning) (words : Words) (token place : ℕ → ℕ) where
  all_moved : (next : ℕ) (ds : List ℤ) → map (distance (place next)) (map (λ z. pos (place (unsigned_abs z))) (map (target next) ds)) ≡ map (moved place next) ds
  all_moved next [] = refl
  all_moved next (d ∷ ds) = ap (λ (zs : List ℤ). moved place next d ∷ zs) (all_moved next ds)

  operand_spelt : (kind : Operand) (next : ℕ) (p : Plain) → FitsIn long (lie_of long kind) p → IsNumbered k m words token kind (unsigned_abs (number_of p)) → plain_of words kind (place next) (operand_to k place (operand_of m kind next p)) ≡ plain_to place token kind next p
  operand_spelt kinds.Nothing next Bare f n = refl
  operand_spelt kinds.Nothing next (Signed z) f n = absurd f
  operand_spelt kinds.Nothing next (Unsigned z) f n = absurd f
  operand_spelt kinds.Nothing next (Distances ds) f n = absurd f
  operand_spelt kinds.Int8 next Bare f n = absurd f
  operand_spelt kinds.Int8 next (Signed z) f n = refl
  operand_spelt kinds.Int8 next (Unsigned z) f n = absurd f
  operand_spelt kinds.Int8 next (Distances ds) f n = absurd f
  operand_spelt kinds.UInt8 next Bare f n = absurd f
  operand_spelt kinds.UInt8 next (Signed z) f n = absurd f
  operand_spelt kinds.UInt8 next (Unsigned z) f n = refl
  operand_spelt kinds.UInt8 next (Distances ds) f n = absurd f
  operand_spelt kinds.UInt16 next Bare f n = absurd f
  operand_spelt kinds.UInt16 next (Signed z) f n = absurd f
  operand_spelt kinds.UInt16 next (Unsigned z) f n = refl
  operand_spelt kinds.UInt16 next (Distances ds) f n = absurd f
  operand_spelt kinds.Int32 next Bare f n = absurd f
  operand_spelt kinds.Int32 next (Signed z) f n = refl
  operand_spelt kinds.Int32 next (Unsigned z) f n = absurd f
  operand_spelt kinds.Int32 next (Distances ds) f n = absurd f
  operand_spelt kinds.Int64 next Bare f n = absurd f
  operand_spelt kinds.Int64 next (Signed z) f n = refl
  operand_spelt kinds.Int64 next (Unsigned z) f n = absurd f
  operand_spelt kinds.Int64 next (Distances ds) f n = absurd f
  operand_spelt kinds.BranchShort next Bare f n = absurd f
  operand_spelt kinds.BranchShort next (Signed d) f n = refl
  operand_spelt kinds.BranchShort next (Unsigned z) f n = absurd f
  operand_spelt kinds.BranchShort next (Distances ds) f n = absurd f
  operand_spelt kinds.BranchLong next Bare f n = absurd f
  operand_spelt kinds.BranchLong next (Signed d) f n = refl
  operand_spelt kinds.BranchLong next (Unsigned z) f n = absurd f
  operand_spelt kinds.BranchLong next (Distances ds) f n = absurd f
  operand_spelt kinds.Switch next p f n = ap (λ (zs : List ℤ). Distances zs) (all_moved next (distances_of p))
  operand_spelt kinds.TypeToken next p f n = ap (λ (x : ℕ). Unsigned x) (sym n)
  operand_spelt kinds.FieldToken next p f n = ap (λ (x : ℕ). Unsigned x) (sym n)
  operand_spelt kinds.MethodToken next p f n = ap (λ (x : ℕ). Unsigned x) (sym n)
  operand_spelt kinds.StringToken next p f n = ap (λ (o : Option (List ℕ)). plain_of words kinds.StringToken (place next) (operand_to k place (text_operand o))) n.1 ∙ ap (λ (x : ℕ). Unsigned x) (sym n.2)
  operand_spelt kinds.AnyToken next p f n = ap (λ (x : ℕ). Unsigned x) (sym n)

  pub instrs_spelt : (at : ℕ) (is : List Instr) → Each (IsSound row_of long) is → AllNumbered k m words token is → instrs_to words (rows_of is) (map (line_to k place) (lines_of m long at is)) ≡ instrs_from place token at is
  instrs_spelt at [] h n = refl
  instrs_spelt at (i ∷ is) h n =
      let next = at + size long i in
      ap (λ (p : Plain). record { row = i.row; operand = p } ∷ instrs_to words (rows_of is) (map (line_to k place) (lines_of m long next is))) (operand_spelt i.row.operand next i.operand h.0.fits n.0)
      ∙ ap (λ (js : List Instr). instr_to place token next i ∷ js) (instrs_spelt next is h.1 n.1)
