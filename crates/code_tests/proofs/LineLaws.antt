-- The lines of code by the instructions that the walk meets.
use Rattle.std.proofs.Common.{◌≡◌, ℕ, zero, suc, ◌+◌, ◌-◌, Bool, true, false, cond, List, [], ◌∷◌, length, map, Option, Some, None, Result, Ok, Err, refl, sym, ap, ◌∙◌}
use Rattle.std.specs.Prelude.{pos, ◌+ℤ◌, unsigned_abs, ◌||◌, not, nat_eq, nat_le, unwrap_or, if◌then◌else◌}
use Rattle.std.specs.List.{filter_map, cons_option, find, list_all, range_with_len}
use Rattle.std.specs.Option.{option_map}
use Rattle.cil_opcodes.specs.declared.shape.Operand.{Operand}
use Rattle.cil_opcodes.specs.declared.shape.Operand.TheVariants as kinds
use Rattle.cil_opcodes.specs.declared.shape.Shape.{Shape}
use Rattle.cil_opcodes.specs.declared.shape.Row.{Row}
use Rattle.cil_opcodes.specs.Rows.{row_of}
use Rattle.cil_code.specs.declared.fault.CodeFault.{CodeFault}
use Rattle.cil_code.specs.declared.instructions.Instr.{Instr}
use Rattle.cil_code.specs.Instructions.{instruction_at, target_at}
use Rattle.cil_code.specs.Walk.{Placed, met_at, walk_within, walk_from, instructions_of, starts_of}
use Rattle.cil_code.proofs.Parts.{parts}
use Rattle.file_tables.specs.Metadata.{MetadataPart}
use Rattle.machine.specs.Data.{CliType}
use Rattle.machine.specs.Program.{Method}
use Rattle.classes.specs.Code.{CodeLine, MethodCode, Sources}
use Rattle.classes.specs.Code as codes
use Rattle.classes.specs.Classes.{Classes}
use Rattle.classes.specs.Listed.{target_place}
use Rattle.assemblies.specs.Rows.{Assembly}
use Rattle.assemblies.specs.Binding.{operand, line_with}
use Rattle.world_rows.specs.Lines.{raw_operand, switch_targets, line_by, raw_line}
use Rattle.code_rules.specs.Pass.{Step}
use Rattle.code_rules.specs.Judgement as judgement
use Rattle.code_rules.specs.Verdict.{steps_from}
use Rattle.verdict_rules.specs.Order.{Test, test_at}
use Rattle.code_places.specs.Among.{is_among}
use Rattle.code_places.specs.Places.{distances, behind, targets_at, end_from, goes_well}
use Rattle.code_places.proofs.Table.{both, is_branch, is_switch, kind_stands, row_stands}
use Rattle.code_places.proofs.WalkLaws.{astray_in, all_same, then_walk}
use Rattle.code_tests.specs.Tests.{first_broken}
use Rattle.code_tests.proofs.ShapeLaws.{goes, stays, branches, switches}

-- ---- the instructions that the walk meets have rows

abbrev pub AllRows : List Placed → Type 0
AllRows [] = Unit {0}
AllRows (p ∷ is) = (row : Row) × (row_of p.instr.op ≡ Some row) × AllRows is

met_rows : (most : ℕ) (code : List ℕ) (at : ℕ) → AllRows (walk_within most code at).met
unfolding walk_within
met_rows zero code at = tt
met_rows (suc most) code at = by (nat_le (length code) at) (λ instr. met_rows most code (at + instr.length))
  where
    this : ((instr : Instr) → AllRows (then_walk most code at instr).met) → (r : Result Instr CodeFault) → instruction_at code at ≡ r → AllRows (met_at at r (then_walk most code at)).met
    this later (Err fault) e = tt
    this later (Ok instr) e =
        let q = parts code at instr e in
        (q.row, ap (λ (i : Instr). row_of i.op) q.made ∙ q.listed, later instr)

    by : (b : Bool) → ((instr : Instr) → AllRows (then_walk most code at instr).met) → AllRows (if b then record { met = []; fault = None } else met_at at (instruction_at code at) (then_walk most code at)).met
    by true later = tt
    by false later = this later (instruction_at code at) refl

pub code_rows : (code : List ℕ) → AllRows (instructions_of code)
unfolding walk_from
code_rows code = met_rows (length code - 0) code 0

-- ---- targets

map_map : {A B C : Type 0} (f : B → C) (g : A → B) (xs : List A) → map f (map g xs) ≡ map (λ x. f (g x)) xs
map_map f g [] = refl
map_map f g (x ∷ xs) = ap (λ ys. f (g x) ∷ ys) (map_map f g xs)

neither : (a b : Bool) → (if a then false else if b then false else true) ≡ true → (a ≡ false) × (b ≡ false)
neither true b e = absurd cc
neither false true e = absurd cc
neither false false e = (refl, refl)

module _ (m : MetadataPart) (k : ℕ) (ps : List Assembly) (file : ℕ) (bytes : List ℕ) where
  abbrev operand_meant : Placed → Operand → codes.Operand
  operand_meant p kind = operand k ps file (raw_operand m bytes p.at (p.at + p.instr.length) kind p.instr.operand)

  abbrev places : Placed → Operand → List ℕ
  places p kind = map (λ d. target_place (pos (behind p) +ℤ d)) (distances bytes p kind)

  module _ (cs : Classes) (code : MethodCode) (p : Placed) (op : ℕ) (s : Shape) where
    other : (kind : Operand) → (if is_branch s then false else if is_switch s then false else true) ≡ true → places p kind ≡ [] → goes cs code p.at s (operand_meant p kind) ≡ places p kind
    other kind e none = let n = neither (is_branch s) (is_switch s) e in stays cs code p.at s n.0 n.1 (operand_meant p kind) ∙ sym none

    by_kind : (kind : Operand) → kind_stands kind op s ≡ true → goes cs code p.at s (operand_meant p kind) ≡ places p kind
    by_kind kinds.Nothing e = other kinds.Nothing e refl
    by_kind kinds.Int8 e = other kinds.Int8 e refl
    by_kind kinds.UInt8 e = other kinds.UInt8 e refl
    by_kind kinds.UInt16 e = other kinds.UInt16 e refl
    by_kind kinds.Int32 e = other kinds.Int32 e refl
    by_kind kinds.Int64 e = other kinds.Int64 e refl
    by_kind kinds.BranchShort e = branches cs code p.at s e (pos (behind p) +ℤ p.instr.operand)
    by_kind kinds.BranchLong e = branches cs code p.at s e (pos (behind p) +ℤ p.instr.operand)
    by_kind kinds.Switch e =
        switches cs code p.at s (both (nat_eq op 69) (is_switch s) e).1 (switch_targets bytes p.at (behind p) (unsigned_abs p.instr.operand))
        ∙ map_map target_place (λ n. pos (behind p) +ℤ target_at bytes p.at n) (range_with_len 0 (unsigned_abs p.instr.operand))
        ∙ sym (map_map (λ d. target_place (pos (behind p) +ℤ d)) (target_at bytes p.at) (range_with_len 0 (unsigned_abs p.instr.operand)))
    by_kind kinds.TypeToken e = other kinds.TypeToken e refl
    by_kind kinds.FieldToken e = other kinds.FieldToken e refl
    by_kind kinds.MethodToken e = other kinds.MethodToken e refl
    by_kind kinds.StringToken e = other kinds.StringToken e refl
    by_kind kinds.AnyToken e = other kinds.AnyToken e refl

  -- an instruction's targets are those of its operand
  pub targets_law : (cs : Classes) (code : MethodCode) (p : Placed) (row : Row) → row_of p.instr.op ≡ Some row → goes cs code p.at row.shape (operand_meant p row.operand) ≡ targets_at bytes p
  targets_law cs code p row e =
      by_kind cs code p p.instr.op row.shape row.operand (row_stands p.instr.op row e)
      ∙ ap (places p) (sym (ap (λ (o : Option Row). unwrap_or (option_map (λ r. r.operand) o) kinds.Nothing) e))

  -- ---- lines and steps

  abbrev line : Placed → Row → CodeLine
  line p row = line_with k ps file (line_by m bytes p row)

  abbrev pub lines : List Placed → List CodeLine
  lines is = map (line_with k ps file) (filter_map (raw_line m bytes) is)

  lines_next : (p : Placed) (is : List Placed) (row : Row) → row_of p.instr.op ≡ Some row → lines (p ∷ is) ≡ line p row ∷ lines is
  lines_next p is row e = ap (λ o. map (line_with k ps file) (cons_option (option_map (line_by m bytes p) o) (filter_map (raw_line m bytes) is))) e

  module _ (src : Sources) (exception : CliType) (method : Method) (code : MethodCode) where
    abbrev pub steps : Option ℕ → List Placed → List Step
    steps before is = steps_from src exception method code before (lines is)

    pub starts_law : (before : Option ℕ) (is : List Placed) → AllRows is → (n : ℕ) → judgement.is_start (steps before is) n ≡ is_among (map (λ (p : Placed). p.at) is) n
    starts_law before [] rows n = refl
    starts_law before (p ∷ is) rows n =
        ap (λ ls. judgement.is_start (steps_from src exception method code before ls) n) (lines_next p is rows.0 rows.1)
        ∙ ap (λ b. nat_eq p.at n || b) (starts_law (Some p.at) is rows.2 n)

    end_behind : (before : Option ℕ) (p : Placed) (is : List Placed) → AllRows (p ∷ is) → judgement.end_of (steps before (p ∷ is)) ≡ end_from (behind p) is
    end_behind before p [] rows = ap (λ ls. judgement.end_of (steps_from src exception method code before ls)) (lines_next p [] rows.0 rows.1)
    end_behind before p (q ∷ is) rows =
        ap (λ ls. judgement.end_of (steps_from src exception method code before ls)) (lines_next p (q ∷ is) rows.0 rows.1 ∙ ap (λ ls. line p rows.0 ∷ ls) (lines_next q is rows.2.0 rows.2.1))
        ∙ sym (ap (λ ls. judgement.end_of (steps_from src exception method code (Some p.at) ls)) (lines_next q is rows.2.0 rows.2.1))
        ∙ end_behind (Some p.at) q is rows.2

    pub end_law : (before : Option ℕ) (is : List Placed) → AllRows is → judgement.end_of (steps before is) ≡ end_from 0 is
    end_law before [] rows = refl
    end_law before (p ∷ is) rows = end_behind before p is rows

  -- ---- 43

  abbrev pub astray_test : Option ℕ → Option Test
  astray_test o = option_map (λ at. test_at 43 at false) o

  astray_step : (p : Placed) (later : Option Placed) (t g : Bool) → t ≡ g → (rest : Option Test) → rest ≡ astray_test (option_map (λ (q : Placed). q.at) later)
      → cond t rest (Some (test_at 43 p.at t)) ≡ astray_test (option_map (λ (q : Placed). q.at) (if not g then Some p else later))
  astray_step p later true true e rest h = h
  astray_step p later false false e rest h = refl
  astray_step p later true false e rest h = absurd cc
  astray_step p later false true e rest h = absurd cc

  module _ (cs : Classes) (code : MethodCode) (all : List Step) (starts : (n : ℕ) → judgement.is_start all n ≡ is_among (starts_of bytes) n) where
    line_law : (p : Placed) (row : Row) → row_of p.instr.op ≡ Some row → judgement.is_targeted cs code all (line p row) ≡ goes_well bytes p
    line_law p row e = ap (list_all (judgement.is_start all)) (targets_law cs code p row e) ∙ all_same (judgement.is_start all) (is_among (starts_of bytes)) starts (targets_at bytes p)

    pub astray_law : (is : List Placed) → AllRows is → first_broken (map (λ (l : CodeLine). test_at 43 l.at (judgement.is_targeted cs code all l)) (lines is)) ≡ astray_test (astray_in bytes is)
    astray_law [] rows = refl
    astray_law (p ∷ is) rows =
        ap (λ ls. first_broken (map (λ (l : CodeLine). test_at 43 l.at (judgement.is_targeted cs code all l)) ls)) (lines_next p is rows.0 rows.1)
        ∙ astray_step p (find (λ q. not (goes_well bytes q)) is) (judgement.is_targeted cs code all (line p rows.0)) (goes_well bytes p) (line_law p rows.0 rows.1) (first_broken (map (λ (l : CodeLine). test_at 43 l.at (judgement.is_targeted cs code all l)) (lines is))) (astray_law is rows.2)
