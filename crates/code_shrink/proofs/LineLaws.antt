-- The lines of shortened code.
use Rattle.std.proofs.Common.{◌≡◌, ℕ, suc, ◌+◌, List, [], ◌∷◌, map, Option, Some, None, refl, sym, ap, ◌∙◌, arith}
use Rattle.std.specs.Prelude.{ℤ, pos, unsigned_abs}
use Rattle.std.proofs.lemmas.Int.{ints}
use Rattle.cil_opcodes.specs.declared.shape.Operand.{Operand}
use Rattle.cil_opcodes.specs.declared.shape.Operand.TheVariants as kinds
use Rattle.cil_opcodes.specs.Rows.{row_of}
use Rattle.assemblies.specs.Rows.{TypeToken, MemberToken, RawOperand, RawTargets, RawTypeOf, RawField, RawMethod, RawLine}
use Rattle.assemblies.specs.Chosen.{Choice, operand_to, line_to}
use Rattle.assemblies.specs.Closed.{Each}
use Rattle.image_form.specs.Codes.{Plain, Bare, Signed, Unsigned, Distances, Meaning, target, distance, number_of, distances_of, bytes_for, opcode_size, plain_size, FitsIn, Instr, IsSound, text_operand, size, lie_of, operand_of, line_of, lines_of, long, short}
use Rattle.short_code.specs.Short.{to_short}
use Rattle.short_code.specs.Pieces.{pieces}
use Rattle.chosen_image.proofs.PlaceLaws.{begin, goes_on}
use Rattle.code_shrink.specs.Shrunk.{moved, plain_to, instr_to, instrs_from}
use Rattle.code_shrink.specs.Lines.{MeansTo, AllMeanTo}

-- ---- an instruction has as many bytes as the one that it becomes

same_count : (b : ℕ) (f : ℤ → ℤ) (ds : List ℤ) → bytes_for b (map f ds) ≡ bytes_for b ds
same_count b f [] = refl
same_count b f (d ∷ ds) = ap (λ (n : ℕ). suc b + n) (same_count b f ds)

module _ (place token : ℕ → ℕ) where
  same_operand : (kind : Operand) (next : ℕ) (p : Plain) → FitsIn long (lie_of long kind) p → plain_size short (plain_to place token kind next p) (lie_of short kind) ≡ plain_size short p (lie_of short kind)
  same_operand kinds.Nothing next p f = refl
  same_operand kinds.Int8 next p f = refl
  same_operand kinds.UInt8 next p f = refl
  same_operand kinds.UInt16 next p f = refl
  same_operand kinds.Int32 next p f = refl
  same_operand kinds.Int64 next p f = refl
  same_operand kinds.BranchShort next p f = refl
  same_operand kinds.BranchLong next p f = refl
  same_operand kinds.Switch next Bare f = absurd f
  same_operand kinds.Switch next (Signed z) f = absurd f
  same_operand kinds.Switch next (Unsigned n) f = absurd f
  same_operand kinds.Switch next (Distances ds) f = ap (λ (n : ℕ). 1 + n) (same_count 1 (moved place next) ds)
  same_operand kinds.TypeToken next p f = refl
  same_operand kinds.FieldToken next p f = refl
  same_operand kinds.MethodToken next p f = refl
  same_operand kinds.StringToken next p f = refl
  same_operand kinds.AnyToken next p f = refl

  pub same_size : (next : ℕ) (i : Instr) → IsSound row_of long i → size short (instr_to place token next i) ≡ size short i
  same_size next i h = ap (λ (n : ℕ). opcode_size i.row.opcode + n) (same_operand i.row.operand next i.operand h.fits)

  -- ---- operands and lines

  module _ (k : Choice) (before after : Meaning) where
    same_target : (next n : ℕ) → target next (distance next (pos n)) ≡ pos n
    same_target next n = omega (arith, ints)

    same_targets : (next : ℕ) (ds : List ℤ) → map (target (place next)) (map (moved place next) ds) ≡ map (λ z. pos (place (unsigned_abs z))) (map (target next) ds)
    same_targets next [] = refl
    same_targets next (d ∷ ds) =
        ap (λ (z : ℤ). z ∷ map (target (place next)) (map (moved place next) ds)) (same_target (place next) (place (unsigned_abs (target next d))))
        ∙ ap (λ (zs : List ℤ). pos (place (unsigned_abs (target next d))) ∷ zs) (same_targets next ds)

    same_text : (o : Option (List ℕ)) → text_operand o ≡ operand_to k place (text_operand o)
    same_text None = refl
    same_text (Some units) = refl

    operand_goes : (kind : Operand) (next : ℕ) (p : Plain) → FitsIn long (lie_of long kind) p → MeansTo k before after token kind (unsigned_abs (number_of p)) → operand_of after kind (place next) (plain_to place token kind next p) ≡ operand_to k place (operand_of before kind next p)
    operand_goes kinds.Nothing next p f t = refl
    operand_goes kinds.Int8 next p f t = refl
    operand_goes kinds.UInt8 next p f t = refl
    operand_goes kinds.UInt16 next p f t = refl
    operand_goes kinds.Int32 next p f t = refl
    operand_goes kinds.Int64 next p f t = refl
    operand_goes kinds.BranchShort next Bare f t = absurd f
    operand_goes kinds.BranchShort next (Signed d) f t = ap (λ (zs : List ℤ). RawTargets zs) (same_targets next (d ∷ []))
    operand_goes kinds.BranchShort next (Unsigned n) f t = absurd f
    operand_goes kinds.BranchShort next (Distances ds) f t = absurd f
    operand_goes kinds.BranchLong next Bare f t = absurd f
    operand_goes kinds.BranchLong next (Signed d) f t = ap (λ (zs : List ℤ). RawTargets zs) (same_targets next (d ∷ []))
    operand_goes kinds.BranchLong next (Unsigned n) f t = absurd f
    operand_goes kinds.BranchLong next (Distances ds) f t = absurd f
    operand_goes kinds.Switch next p f t = ap (λ (zs : List ℤ). RawTargets zs) (same_targets next (distances_of p))
    operand_goes kinds.TypeToken next p f t = ap (λ (x : TypeToken). RawTypeOf x) t
    operand_goes kinds.FieldToken next p f t = ap (λ (x : MemberToken). RawField x) t
    operand_goes kinds.MethodToken next p f t = ap (λ (x : MemberToken). RawMethod x) t
    operand_goes kinds.StringToken next p f t = ap text_operand t ∙ same_text (before.text (unsigned_abs (number_of p)))
    operand_goes kinds.AnyToken next p f t = ap (λ (x : MemberToken). RawField x) t

    -- places go on along the instructions
    pub lines_go : (at : ℕ) (is : List Instr) → ((y : ℕ) → place (at + y) ≡ place at + to_short (pieces is) y) → Each (IsSound row_of long) is → AllMeanTo k before after token is
        → lines_of after short (place at) (instrs_from place token at is) ≡ map (line_to k place) (lines_of before long at is)
    lines_go at [] on h t = refl
    lines_go at (i ∷ is) on h t =
        let L = size long i in
        let S = size short i in
        let i' = instr_to place token (at + L) i in
        let off : L + 0 ≡ L = omega arith in
        let whole : S + 0 ≡ S = omega arith in
        let step : place (at + L) ≡ place at + S = on L ∙ ap (λ n. place at + n) (ap (to_short (pieces (i ∷ is))) (sym off) ∙ goes_on i is 0 ∙ ap (λ n. S + n) (begin is) ∙ whole) in
        let next : place at + size short i' ≡ place (at + L) = ap (λ (n : ℕ). place at + n) (same_size (at + L) i h.0) ∙ sym step in
        let operand = operand_goes i.row.operand (at + L) i.operand h.0.fits t.0 in
        let more = lines_go (at + L) is (λ y. let sum : at + L + y ≡ at + (L + y) = omega arith in omega (arith, ap place sum, on (L + y), goes_on i is y, step)) h.1 t.1 in
        ap (λ (n : ℕ). record { at = place at; shape = i.row.shape; operand = operand_of after i.row.operand n i'.operand; next = n } ∷ lines_of after short n (instrs_from place token (at + L) is)) next
        ∙ ap (λ (o : RawOperand). record { at = place at; shape = i.row.shape; operand = o; next = place (at + L) } ∷ lines_of after short (place (at + L)) (instrs_from place token (at + L) is)) operand
        ∙ ap (λ (ls : List RawLine). line_to k place (line_of before long at i) ∷ ls) more
