-- Rules 41 and 42 kept: the instructions stand behind one another, there is one, and control doesn't fall out of the code.
use Rattle.std.proofs.Common.{◌≡◌, ℕ, zero, suc, ◌+◌, ◌-◌, Bool, true, false, List, [], ◌∷◌, map, length, Option, Some, None, refl, sym, ap, ◌∙◌, arith, cond}
use Rattle.std.specs.Prelude.{if◌then◌else◌, not, nat_le, nat_lt, nat_eq, unwrap_or, Result, Ok, Err}
use Rattle.std.specs.List.{filter_map, cons_option}
use Rattle.std.specs.Option.{option_map, option_or, option_map_or}
use Rattle.std.proofs.lemmas.Bool.{and_from, eq-eqb, lt-ltb}
use Rattle.cil_opcodes.specs.declared.shape.Shape.{Shape}
use Rattle.cil_opcodes.specs.declared.shape.Shape.TheVariants as shape
use Rattle.cil_opcodes.specs.declared.shape.Row.{Row}
use Rattle.cil_opcodes.specs.Rows.{row_of, is_transfer}
use Rattle.cil_code.specs.declared.fault.CodeFault.{CodeFault}
use Rattle.cil_code.specs.declared.fault.TheConstants.{PAST_THE_END}
use Rattle.cil_code.specs.declared.instructions.Instr.{Instr}
use Rattle.cil_code.specs.Instructions.{instruction_at, fault_at}
use Rattle.cil_code.specs.Walk.{Placed, Walk, met_at, walk_within, walk_from, goes_on, reaching, reaching_behind, fault_behind, code_fault}
use Rattle.cil_code.proofs.Parts.{parts, instruction_fits}
use Rattle.file_tables.specs.Metadata.{MetadataPart}
use Rattle.machine.specs.Data.{CliType}
use Rattle.machine.specs.Program.{Method, Instruction}
use Rattle.classes.specs.Classes.{Classes}
use Rattle.classes.specs.Code.{Operand, CodeLine, MethodCode, Sources}
use Rattle.classes.specs.Listed.{instruction_of, target_of, innermost, is_catch_kind, is_finally_kind}
use Rattle.assemblies.specs.Rows.{Assembly}
use Rattle.assemblies.specs.Binding.{line_with}
use Rattle.world_rows.specs.Lines.{line_by, raw_line, lines_of}
use Rattle.code_rules.specs.Flow.{falls}
use Rattle.code_rules.specs.Verdict.{step_of, steps_from}
use Rattle.code_rules.specs.Judgement.{lines_rise, is_some_line, is_closed}

-- an instruction that stands in code has a row
row_there : (code : List ℕ) (at : ℕ) (instr : Instr) → instruction_at code at ≡ Ok instr → (row : Row) × (row_of instr.op ≡ Some row)
row_there code at instr e = let p = parts code at instr e in (p.row, ap (λ (i : Instr). row_of i.op) p.made ∙ p.listed)

-- instructions that have rows
pub data Known : List Placed → Type 0 where
  NoMore : Known []
  More : (p : Placed) (ps : List Placed) (row : Row) → row_of p.instr.op ≡ Some row → Known ps → Known (p ∷ ps)

-- behind a transfer control doesn't go on
none_falls : {A : Type 0} (make : A → Instruction) (o : Option A) → ((a : A) → falls (make a) ≡ false) → unwrap_or (option_map falls (option_map make o)) false ≡ false
none_falls make None h = refl
none_falls make (Some a) h = h a

transfers : (cs : Classes) (code : MethodCode) (at : ℕ) (s : Shape) (o : Operand) → is_transfer s ≡ true → unwrap_or (option_map falls (instruction_of cs code at s o)) false ≡ false
transfers cs code at shape.Branch o e = none_falls _ (target_of o) (λ a. refl)
transfers cs code at shape.Return o e = refl
transfers cs code at shape.Throw o e = refl
transfers cs code at shape.Rethrow o e = none_falls _ (innermost is_catch_kind code at) (λ a. refl)
transfers cs code at shape.Leave o e = none_falls _ (target_of o) (λ a. refl)
transfers cs code at shape.EndFinally o e = none_falls _ (innermost is_finally_kind code at) (λ a. refl)
transfers cs code at _ o e = absurd (cc e)

module _ (k : ℕ) (ps : List Assembly) (file : ℕ) (m : MetadataPart) (code : List ℕ) where
  abbrev line : Placed → Row → CodeLine
  line p row = line_with k ps file (line_by m code p row)

  abbrev lines : List Placed → List CodeLine
  lines met = map (line_with k ps file) (filter_map (raw_line m code) met)

  one_more : (p : Placed) (met : List Placed) (row : Row) → row_of p.instr.op ≡ Some row → lines (p ∷ met) ≡ line p row ∷ lines met
  one_more p met row e = ap (λ o. map (line_with k ps file) (cons_option (option_map (line_by m code p) o) (filter_map (raw_line m code) met))) e

  rises_from : (from : ℕ) (walk : ℕ → Walk) (o : Result Instr CodeFault) → instruction_at code from ≡ o → ((next : ℕ) → lines_rise next (lines (walk next).met) ≡ true) → lines_rise from (lines (met_at from o (λ instr. walk (from + instr.length))).met) ≡ true
  rises_from from walk (Err fault) e rest = refl
  rises_from from walk (Ok instr) e rest =
      let row = row_there code from instr e in
      let fits = instruction_fits code from instr e in
      ap (lines_rise from) (one_more (record { at = from; instr = instr }) (walk (from + instr.length)).met row.0 row.1)
      ∙ and_from (nat_eq from from) _ (eq-eqb from from refl) (and_from (nat_lt from (from + instr.length)) _ (let long = fits.0 in lt-ltb from (from + instr.length) (omega (arith, long))) (rest (from + instr.length)))

  rises_or_ends : (from : ℕ) (walk : Walk) (b : Bool) → lines_rise from (lines walk.met) ≡ true → lines_rise from (lines (cond b (record { met = []; fault = None }) walk).met) ≡ true
  rises_or_ends from walk true e = refl
  rises_or_ends from walk false e = e

  rises : (most from : ℕ) → lines_rise from (lines (walk_within most code from).met) ≡ true
  unfolding walk_within
  rises zero from = refl
  rises (suc most) from = rises_or_ends from (met_at from (instruction_at code from) (λ instr. walk_within most code (from + instr.length))) (nat_le (length code) from) (rises_from from (walk_within most code) (instruction_at code from) refl (rises most))

  -- ---- each instruction that the walk meets has a row

  known_from : (from : ℕ) (walk : ℕ → Walk) (o : Result Instr CodeFault) → instruction_at code from ≡ o → ((next : ℕ) → Known (walk next).met) → Known (met_at from o (λ instr. walk (from + instr.length))).met
  known_from from walk (Err fault) e rest = NoMore
  known_from from walk (Ok instr) e rest = let row = row_there code from instr e in More (record { at = from; instr = instr }) (walk (from + instr.length)).met row.0 row.1 (rest (from + instr.length))

  known_or_ends : (walk : Walk) (b : Bool) → Known walk.met → Known (cond b (record { met = []; fault = None }) walk).met
  known_or_ends walk true e = NoMore
  known_or_ends walk false e = e

  known : (most from : ℕ) → Known (walk_within most code from).met
  unfolding walk_within
  known zero from = NoMore
  known (suc most) from = known_or_ends (met_at from (instruction_at code from) (λ instr. walk_within most code (from + instr.length))) (nat_le (length code) from) (known_from from (walk_within most code) (instruction_at code from) refl (known most))

  -- ---- the end isn't reached

  abbrev told : Option ℕ → Option CodeFault
  told = option_map (λ at. fault_at at PAST_THE_END)

  is_none : (o : Option ℕ) → told o ≡ None → o ≡ None
  is_none None e = refl
  is_none (Some at) e = absurd (cc e)

  unreached : (walk : Walk) → fault_behind (Some 0) walk ≡ None → reaching_behind (Some 0) walk.met ≡ None
  unreached walk e = by walk.fault e
    where
      by : (o : Option CodeFault) → option_or o (told (reaching_behind (Some 0) walk.met)) ≡ None → reaching_behind (Some 0) walk.met ≡ None
      by None h = is_none (reaching_behind (Some 0) walk.met) h
      by (Some fault) h = absurd (cc h)

  some_line : (met : List Placed) → Known met → reaching_behind (Some 0) met ≡ None → is_some_line (lines met) ≡ true
  some_line [] rows e = absurd (cc e)
  some_line (p ∷ met) (More _ _ row is rows) e = ap is_some_line (one_more p met row is)

  module _ (x : Sources) (exception : CliType) (method : Method) (of : MethodCode) where
    stops : (p : Placed) (row : Row) (before : Option ℕ) → row_of p.instr.op ≡ Some row → reaching p ≡ None → is_closed (steps_from x exception method of before (line p row ∷ [])) ≡ true
    stops p row before is e = ap not (transfers x.classes of p.at row.shape (line p row).operand transfer)
      where
        by : (b : Bool) → is_transfer row.shape ≡ b → (if goes_on p.instr then Some p.at else None) ≡ None → is_transfer row.shape ≡ true
        by true t h = t
        by false t h = absurd (let goes : goes_on p.instr ≡ true = ap (λ o. option_map_or (λ (r : Row). not (is_transfer r.shape)) o true) is ∙ ap not t in let there : Some p.at ≡ None = sym (ap (λ (b : Bool). if b then Some p.at else None) goes) ∙ h in cc there)

        transfer : is_transfer row.shape ≡ true
        transfer = by (is_transfer row.shape) refl e

    closed : (met : List Placed) → Known met → (before : Option ℕ) (told : Option ℕ) → reaching_behind told met ≡ None → is_closed (steps_from x exception method of before (lines met)) ≡ true
    closed [] rows before told e = refl
    closed (p ∷ []) (More _ _ row is rows) before told e = ap (λ ls. is_closed (steps_from x exception method of before ls)) (one_more p [] row is) ∙ stops p row before is e
    closed (p ∷ (q ∷ met)) (More _ _ row is (More _ _ next there rows)) before told e =
        ap (λ ls. is_closed (steps_from x exception method of before ls)) (one_more p (q ∷ met) row is)
        ∙ (ap (λ ls. is_closed (step_of x exception method of before (line p row) ∷ steps_from x exception method of (Some p.at) ls)) (one_more q met next there)
        ∙ (sym (ap (λ ls. is_closed (steps_from x exception method of (Some p.at) ls)) (one_more q met next there)) ∙ closed (q ∷ met) (More q met next there rows) (Some p.at) (reaching p) e))

  -- ---- the whole

  pub lines_rise_here : lines_rise 0 (map (line_with k ps file) (lines_of m code)) ≡ true
  unfolding lines_of walk_from
  lines_rise_here = rises (length code - 0) 0

  pub some_line_here : code_fault code ≡ None → is_some_line (map (line_with k ps file) (lines_of m code)) ≡ true
  unfolding lines_of walk_from code_fault
  some_line_here e = some_line (walk_from code 0).met (known (length code - 0) 0) (unreached (walk_from code 0) e)

  pub closed_here : (x : Sources) (exception : CliType) (method : Method) (of : MethodCode) → code_fault code ≡ None → is_closed (steps_from x exception method of None (map (line_with k ps file) (lines_of m code))) ≡ true
  unfolding lines_of walk_from code_fault
  closed_here x exception method of e = closed x exception method of (walk_from code 0).met (known (length code - 0) 0) None (Some 0) (unreached (walk_from code 0) e)
