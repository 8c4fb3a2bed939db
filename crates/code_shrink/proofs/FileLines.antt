-- The lines of a file's code, which cil_code's walk meets, are those of the instructions that are decoded.
use Rattle.std.proofs.Common.{◌≡◌, ⊎_elim, ℕ, zero, suc, ◌+◌, ◌≤◌, Bool, true, false, List, [], ◌∷◌, length, map, Option, Some, None, refl, sym, ap, ◌∙◌, subst, arith}
use Rattle.std.specs.Prelude.{ℤ, pos, ◌+ℤ◌, ◌==◌, unsigned_abs, if◌then◌else◌}
use Rattle.std.specs.List.{filter_map, range_with_len}
use Rattle.std.specs.Option.{option_map}
use Rattle.std.proofs.lemmas.Bool.{cases_lt}
use Rattle.cil_opcodes.specs.declared.shape.Operand.{Operand}
use Rattle.cil_opcodes.specs.declared.shape.Operand.TheVariants as kinds
use Rattle.cil_opcodes.specs.declared.shape.Row.{Row}
use Rattle.cil_code.specs.Instructions.{operand_at, target_at}
use Rattle.cil_code.specs.Walk.{Placed, Walk, walk_from, code_fault}
use Rattle.cil_code.proofs.Walked.{walk_ends, walk_goes}
use Rattle.file_tables.specs.Heaps.{user_string_at}
use Rattle.file_tables.specs.Metadata.{MetadataPart}
use Rattle.assemblies.specs.Rows.{RawOperand, RawNothing, RawTargets, RawLine}
use Rattle.world_rows.specs.Tokens.{table_of, number_of as row_number, literals}
use Rattle.world_rows.specs.Lines.{units_from, raw_text, literal, raw_operand, raw_line, lines_of as file_lines}
use Rattle.image_form.specs.Codes.{text_operand, target, operand_of, line_of, lines_of, long}
use Rattle.code_shrink.specs.Shrunk.{instrs_in}
use Rattle.code_shrink.specs.Lines.{AreBytes}
use Rattle.code_shrink.specs.FileLines.{literal_units, file_meaning}
use Rattle.code_shrink.specs.Steps.{IsStep, plain_at, instr_of}
use Rattle.code_shrink.specs.declared.step.Step.{Step}
use Rattle.code_shrink.proofs.Reading.{made}
use Rattle.code_shrink.proofs.Walking.{IsWhole, goes, rest, rest_goes, rest_ends, whole_of}
use Rattle.code_shrink.proofs.Sizes.{sizes}

text_same : (m : MetadataPart) (token : ℕ) → literal m token ≡ text_operand (literal_units m token)
text_same m token = by (table_of token == literals) (user_string_at m.user_strings (row_number token)) where
  by : (b : Bool) (o : Option (List ℕ)) → (if b then raw_text o else RawNothing) ≡ text_operand (if b then option_map units_from o else None)
  by true None = refl
  by true (Some bytes) = refl
  by false o = refl

targets_same : (code : List ℕ) (at next : ℕ) (ks : List ℕ) → map (λ k. pos next +ℤ target_at code at k) ks ≡ map (target next) (map (target_at code at) ks)
targets_same code at next [] = refl
targets_same code at next (k ∷ ks) = ap (λ (zs : List ℤ). (pos next +ℤ target_at code at k) ∷ zs) (targets_same code at next ks)

operand_same : (m : MetadataPart) (kind : Operand) (code : List ℕ) (at start next : ℕ) → raw_operand m code at next kind (operand_at kind code start) ≡ operand_of (file_meaning m) kind next (plain_at code at kind (operand_at kind code start))
unfolding operand_at
operand_same m kinds.Nothing code at start next = refl
operand_same m kinds.Int8 code at start next = refl
operand_same m kinds.UInt8 code at start next = refl
operand_same m kinds.UInt16 code at start next = refl
operand_same m kinds.Int32 code at start next = refl
operand_same m kinds.Int64 code at start next = refl
operand_same m kinds.BranchShort code at start next = refl
operand_same m kinds.BranchLong code at start next = refl
operand_same m kinds.Switch code at start next = ap (λ (zs : List ℤ). RawTargets zs) (targets_same code at next (range_with_len 0 (unsigned_abs (operand_at kinds.Switch code start))))
operand_same m kinds.TypeToken code at start next = refl
operand_same m kinds.FieldToken code at start next = refl
operand_same m kinds.MethodToken code at start next = refl
operand_same m kinds.StringToken code at start next = text_same m (unsigned_abs (operand_at kinds.StringToken code start))
operand_same m kinds.AnyToken code at start next = refl

line_same : (m : MetadataPart) (code : List ℕ) (at : ℕ) (s : Step) → AreBytes code → IsStep code at s → raw_line m code (record { at = at; instr = s.instr }) ≡ Some (line_of (file_meaning m) long at (instr_of code at s))
line_same m code at s bytes h =
    let made_of = made code at s h in
    let z = sizes code at s h bytes in
    let next = at + s.instr.length in
    let operand : raw_operand m code at next s.row.operand s.instr.operand ≡ operand_of (file_meaning m) s.row.operand next (plain_at code at s.row.operand s.instr.operand) =
    subst (λ (n : ℤ). raw_operand m code at next s.row.operand n ≡ operand_of (file_meaning m) s.row.operand next (plain_at code at s.row.operand n)) (sym made_of.operand) (operand_same m s.row.operand code at (at + made_of.opcode.len) next) in
    ap (option_map (λ (row : Row). record { at = at; shape = row.shape; operand = raw_operand m code at next row.operand s.instr.operand; next = next })) h.listed
    ∙ ap (λ (o : RawOperand). Some (record { at = at; shape = s.row.shape; operand = o; next = next })) operand
    ∙ ap (λ (n : ℕ). Some (record { at = at; shape = s.row.shape; operand = operand_of (file_meaning m) s.row.operand (at + n) (plain_at code at s.row.operand s.instr.operand); next = at + n })) (sym z.long_is)

-- with so many steps at most
lines_from : (n : ℕ) (m : MetadataPart) (code : List ℕ) (at : ℕ) → AreBytes code → IsWhole code at → length code ≤ at + n → filter_map (raw_line m code) (walk_from code at).met ≡ lines_of (file_meaning m) long at (rest code at)
lines_from zero m code at bytes h le =
    ap (λ (w : Walk). filter_map (raw_line m code) w.met) (walk_ends code at (omega arith))
    ∙ sym (ap (lines_of (file_meaning m) long at) (rest_ends code at (omega arith)))
lines_from (suc n) m code at bytes h le =
    ⊎_elim
    (λ lt.
    let g = goes code at lt h in
    let s = g.step in
    let z = sizes code at s g.stands bytes in
    let ih = lines_from n m code (at + s.instr.length) bytes g.whole (omega (arith, g.some)) in
    let l = line_of (file_meaning m) long at (instr_of code at s) in
    ap (λ (w : Walk). filter_map (raw_line m code) w.met) (walk_goes code at s.instr g.stands.stands)
    ∙ one_line (raw_line m code) (record { at = at; instr = s.instr }) (walk_from code (at + s.instr.length)).met l (line_same m code at s bytes g.stands)
    ∙ ap (λ (ls : List RawLine). l ∷ ls) ih
    ∙ ap (λ (k : ℕ). l ∷ lines_of (file_meaning m) long (at + k) (rest code (at + s.instr.length))) (sym z.long_is)
    ∙ sym (ap (lines_of (file_meaning m) long at) (rest_goes code at s g.stands)))
    (λ past.
    ap (λ (w : Walk). filter_map (raw_line m code) w.met) (walk_ends code at past)
    ∙ sym (ap (lines_of (file_meaning m) long at) (rest_ends code at past)))
    (cases_lt at (length code))
  where
    one_line : (f : Placed → Option RawLine) (p : Placed) (ps : List Placed) (l : RawLine) → f p ≡ Some l → filter_map f (p ∷ ps) ≡ l ∷ filter_map f ps
    one_line f p ps l e = rw e refl

pub lines_same : (m : MetadataPart) (code : List ℕ) → AreBytes code → code_fault code ≡ None → file_lines m code ≡ lines_of (file_meaning m) long 0 (instrs_in code)
unfolding file_lines
lines_same m code bytes h = lines_from (length code) m code 0 bytes (whole_of code h) (omega arith)
