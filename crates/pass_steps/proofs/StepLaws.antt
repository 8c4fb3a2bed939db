-- The steps one by one, with what a listing tells of them.
use Rattle.std.proofs.Common.{◌≡◌, ℕ, suc, Bool, true, false, cond, List, [], ◌∷◌, length, map, Option, Some, None, Result, Ok, Err, refl, sym, ap, subst, ◌∙◌, arith}
use Rattle.std.specs.Prelude.{◌||◌, ◌&&◌, not, nat_eq, is_some, unwrap_or, slice_get, if◌then◌else◌}
use Rattle.std.specs.List.{filter_map, cons_option, find, flat_map, list_any, list_all, position}
use Rattle.std.specs.Option.{option_map}
use Rattle.std.proofs.lemmas.Bool.{eqb-true, eq-eqb}
use Rattle.std.proofs.lemmas.List.Folds.{list_any-append}
use Rattle.cil_opcodes.specs.declared.shape.Shape.{Shape}
use Rattle.cil_opcodes.specs.declared.shape.Shape.TheVariants as shapes
use Rattle.cil_opcodes.specs.declared.shape.Row.{Row}
use Rattle.cil_opcodes.specs.Rows.{row_of, is_transfer}
use Rattle.cil_code.specs.declared.clause.Clause.{Clause}
use Rattle.cil_code.specs.declared.instructions.Instr.{Instr}
use Rattle.cil_code.specs.Bodies.{BodyPart}
use Rattle.cil_code.specs.Instructions.{instruction_at}
use Rattle.cil_code.specs.Walk.{Placed, code_fault, instructions_of, starts_of}
use Rattle.file_tables.specs.Metadata.{MetadataPart}
use Rattle.file_tables.specs.File.{FilePart}
use Rattle.machine.specs.Data.{CliType, ClassOf}
use Rattle.machine.specs.Program.{Method, Instruction}
use Rattle.machine.specs.Throw.{on_some}
use Rattle.machine_typed.specs.Typing.{StackType}
use Rattle.classes.specs.Code.{CodeLine, MethodCode, Sources}
use Rattle.classes.specs.Clauses.{may_go, may_leave}
use Rattle.classes.specs.Listed.{instruction_of, in_handler, program_of}
use Rattle.assemblies.specs.Rows.{Assembly}
use Rattle.assemblies.specs.Binding.{line_with}
use Rattle.world_rows.specs.Lines.{line_by, raw_line, lines_of}
use Rattle.kept_rows.proofs.SelectLaws.{position_step}
use Rattle.code_rules.specs.Flow.{falls}
use Rattle.code_rules.specs.Pass.{Step}
use Rattle.code_rules.specs.Verdict.{steps_from, step_of, stands, operand_fits, numbered, begun_by, begins_at, falls_in_well, act_of}
use Rattle.verdict_rules.specs.World.{World, classes_of, exception_of}
use Rattle.code_places.specs.Among.{is_among}
use Rattle.code_places.specs.Places.{behind, end_from, targets_at, all_targets}
use Rattle.code_places.specs.Clauses.{clause_seen}
use Rattle.code_places.proofs.WalkLaws.{all_same}
use Rattle.code_tests.specs.Tests.{code_meant, clauses_meant, clause_meant, kind_meant}
use Rattle.code_tests.proofs.ShapeLaws.{falls_law}
use Rattle.code_tests.proofs.LineLaws.{AllRows, code_rows, targets_law}
use Rattle.code_tests.proofs.TestLaws.{starts}
use Rattle.code_tests.proofs.MeantLaws.{goes_alike, leaves_alike, caught_alike, final_alike, none_alike, tries_alike}
use Rattle.forward_pass.specs.Seen.{LieFrom, step_at, is_target}
use Rattle.forward_pass.specs.Told.{AreRanked}
use Rattle.pass_steps.specs.Listed.{steps_here, operand_meant, instruction_meant, in_front, shape_stands, lowest_unless, handler_at, IsTold}
use Rattle.pass_steps.proofs.RuleLaws.{lowest_three, step_ranked}
use Rattle.pass_steps.proofs.PlaceLaws.{Up, code_up, code_whole, found_stands}
use Rattle.pass_steps.proofs.StandLaws.{stands_law}

-- an offset among others, from either side
turned_by : (a b : ℕ) (c d : Bool) → nat_eq a b ≡ c → nat_eq b a ≡ d → c ≡ d
turned_by a b true true h k = refl
turned_by a b false false h k = refl
turned_by a b true false h k = absurd (cc (sym (eq-eqb b a (sym (eqb-true a b h))) ∙ k))
turned_by a b false true h k = absurd (cc (sym (eq-eqb a b (sym (eqb-true b a k))) ∙ h))

same_turned : (a b : ℕ) → nat_eq a b ≡ nat_eq b a
same_turned a b = turned_by a b (nat_eq a b) (nat_eq b a) refl refl

among_turned : (ts : List ℕ) (n : ℕ) → list_any (nat_eq n) ts ≡ is_among ts n
among_turned [] n = refl
among_turned (t ∷ ts) n = ap (λ b. b || list_any (nat_eq n) ts) (same_turned n t) ∙ ap (λ b. nat_eq t n || b) (among_turned ts n)

found_by : {A : Type 0} (test : A → Bool) (x : A) (xs : List A) (b : Bool) → (list_any test xs ≡ false → find test xs ≡ None) → (b || list_any test xs) ≡ false → cond b (Some x) (find test xs) ≡ None
found_by test x xs true later h = absurd (cc h)
found_by test x xs false later h = later h

none_found : {A : Type 0} (test : A → Bool) (xs : List A) → list_any test xs ≡ false → find test xs ≡ None
none_found test [] e = refl
none_found test (x ∷ xs) e = found_by test x xs (test x) (none_found test xs) e

some_by : {A : Type 0} (test : A → Bool) (x : A) (xs : List A) (b : Bool) → (list_any test xs ≡ true → (y : A) × (find test xs ≡ Some y)) → (b || list_any test xs) ≡ true → (y : A) × (cond b (Some x) (find test xs) ≡ Some y)
some_by test x xs true later h = (x, refl)
some_by test x xs false later h = later h

some_found : {A : Type 0} (test : A → Bool) (xs : List A) → list_any test xs ≡ true → (y : A) × (find test xs ≡ Some y)
some_found test [] e = absurd (cc e)
some_found test (x ∷ xs) e = some_by test x xs (test x) (some_found test xs) e

module _ (m : MetadataPart) (k : ℕ) (ps : List Assembly) (file : ℕ) (bytes : List ℕ) (src : Sources) (exception : CliType) (method : Method) (code : MethodCode) where
  abbrev line : Placed → Row → CodeLine
  line p row = line_with k ps file (line_by m bytes p row)

  abbrev lines_here : List Placed → List CodeLine
  lines_here is = map (line_with k ps file) (filter_map (raw_line m bytes) is)

  abbrev pub steps : Option ℕ → List Placed → List Step
  steps before is = steps_from src exception method code before (lines_here is)

  abbrev pub step : Option ℕ → Placed → Row → Step
  step before p row = step_of src exception method code before (line p row)

  next : (before : Option ℕ) (p : Placed) (is : List Placed) (row : Row) → row_of p.instr.op ≡ Some row → steps before (p ∷ is) ≡ step before p row ∷ steps (Some p.at) is
  next before p is row e = ap (λ o. steps_from src exception method code before (map (line_with k ps file) (cons_option (option_map (line_by m bytes p) o) (filter_map (raw_line m bytes) is)))) e

  pub lies : (before : Option ℕ) (is : List Placed) (at size : ℕ) → AllRows is → Up at is → end_from at is ≡ size → LieFrom (steps before is) at size
  lies before [] at size rows up e = e
  lies before (p ∷ is) at size rows up e =
      let here = up.0 in
      let long = up.1 in
      subst (λ ss. LieFrom ss at size) (sym (next before p is rows.0 rows.1)) (here, omega (arith, here, long), lies (Some p.at) is (behind p) size rows.2 up.2 e)

  pub ranked : (before : Option ℕ) (is : List Placed) → AllRows is → AreRanked (steps before is)
  ranked before [] rows = tt
  ranked before (p ∷ is) rows =
      let l = line p rows.0 in
      let i = instruction_of src.classes code l.at l.shape l.operand in
      subst AreRanked (sym (next before p is rows.0 rows.1))
      (step_ranked (program_of src) exception method i (stands code.clauses l.at l.shape i) (operand_fits src.classes l.shape l.operand) (step before p rows.0) refl refl, ranked (Some p.at) is rows.2)

  pub leads : (before : Option ℕ) (is : List Placed) → AllRows is → (n : ℕ) → is_target (steps before is) n ≡ is_among (flat_map (targets_at bytes) is) n
  leads before [] rows n = refl
  leads before (p ∷ is) rows n =
      ap (λ ss. is_target ss n) (next before p is rows.0 rows.1)
      ∙ (ap (λ b. b || is_target (steps (Some p.at) is) n) (ap (list_any (nat_eq n)) (targets_law m k ps file bytes src.classes code p rows.0 rows.1) ∙ among_turned (targets_at bytes p) n)
      ∙ (ap (λ b. is_among (targets_at bytes p) n || b) (leads (Some p.at) is rows.2 n)
      ∙ sym (list_any-append (λ place. nat_eq place n) (targets_at bytes p) (flat_map (targets_at bytes) is))))

  -- what stands at an offset
  pub record Found (before : Option ℕ) (is : List Placed) (n : ℕ) (s : Step) : Type 0 where
    pub placed : Placed
    pub row : Row
    pub listed : row_of placed.instr.op ≡ Some row
    pub there : find (λ (q : Placed). nat_eq q.at n) is ≡ Some placed
    pub here : placed.at ≡ n
    pub same : s ≡ step (in_front before is n) placed row

  found_here : (before : Option ℕ) (p : Placed) (is : List Placed) (row : Row) (n : ℕ) (s : Step) → row_of p.instr.op ≡ Some row → nat_eq p.at n ≡ true → cond (nat_eq p.at n) (Some (step before p row)) (step_at (steps (Some p.at) is) n) ≡ Some s → Found before (p ∷ is) n s
  found_here before p is row n s listed h e =
      let it : Some (step before p row) ≡ Some s = sym (ap (λ b. cond b (Some (step before p row)) (step_at (steps (Some p.at) is) n)) h) ∙ e in
      let is_it : step before p row ≡ s = cc it in
      record {
        placed = p;
        row = row;
        listed = listed;
        there = ap (λ b. cond b (Some p) (find (λ (q : Placed). nat_eq q.at n) is)) h;
        here = eqb-true p.at n h;
        same = sym is_it ∙ sym (ap (λ b. step (if b then before else in_front (Some p.at) is n) p row) h);
      }

  found_later : (before : Option ℕ) (p : Placed) (is : List Placed) (n : ℕ) (s : Step) → nat_eq p.at n ≡ false → Found (Some p.at) is n s → Found before (p ∷ is) n s
  found_later before p is n s h f =
      record {
        placed = f.placed;
        row = f.row;
        listed = f.listed;
        there = ap (λ b. cond b (Some p) (find (λ (q : Placed). nat_eq q.at n) is)) h ∙ f.there;
        here = f.here;
        same = f.same ∙ sym (ap (λ b. step (if b then before else in_front (Some p.at) is n) f.placed f.row) h);
      }

  found_either : (before : Option ℕ) (p : Placed) (is : List Placed) (row : Row) (n : ℕ) (s : Step) → row_of p.instr.op ≡ Some row → (b : Bool) → nat_eq p.at n ≡ b → (step_at (steps (Some p.at) is) n ≡ Some s → Found (Some p.at) is n s) → cond (nat_eq p.at n) (Some (step before p row)) (step_at (steps (Some p.at) is) n) ≡ Some s → Found before (p ∷ is) n s
  found_either before p is row n s listed true h later e = found_here before p is row n s listed h e
  found_either before p is row n s listed false h later e = found_later before p is n s h (later (sym (ap (λ b. cond b (Some (step before p row)) (step_at (steps (Some p.at) is) n)) h) ∙ e))

  pub found : (before : Option ℕ) (is : List Placed) → AllRows is → (n : ℕ) (s : Step) → step_at (steps before is) n ≡ Some s → Found before is n s
  found before [] rows n s e = absurd (cc e)
  found before (p ∷ is) rows n s e =
      found_either before p is rows.0 n s rows.1 (nat_eq p.at n) refl (λ h. found (Some p.at) is rows.2 n s h) (sym (ap (λ ss. step_at ss n) (next before p is rows.0 rows.1)) ∙ e)

-- ---- clauses

module _ (w : World) (file : ℕ) (x : FilePart) where
  abbrev told_of : Option Clause → Option (List StackType)
  told_of o = option_map (λ c. begun_by (classes_of w) (kind_meant w file x c)) o

  later_of : (c : Clause) (cs : List Clause) (o : Option ℕ) → on_some (option_map suc o) (slice_get (c ∷ cs)) ≡ on_some o (slice_get cs)
  later_of c cs None = refl
  later_of c cs (Some n) = refl

  begun_by_test : (c : Clause) (cs : List Clause) (at : ℕ) (b : Bool) → begins_at (classes_of w) (clauses_meant w file x cs) at ≡ told_of (handler_at cs at)
      → option_map (λ d. begun_by (classes_of w) d.kind) (cond b (Some (clause_meant w file x c)) (find (λ d. nat_eq d.start at) (clauses_meant w file x cs)))
      ≡ told_of (on_some (cond b (Some 0) (option_map suc (position (λ (d : Clause). nat_eq d.start at) cs))) (slice_get (c ∷ cs)))
  begun_by_test c cs at true h = refl
  begun_by_test c cs at false h = h ∙ sym (ap told_of (later_of c cs (position (λ (d : Clause). nat_eq d.start at) cs)))

  begun : (cs : List Clause) (at : ℕ) → begins_at (classes_of w) (clauses_meant w file x cs) at ≡ told_of (handler_at cs at)
  begun [] at = refl
  begun (c ∷ cs) at =
      begun_by_test c cs at (nat_eq c.start at) (begun cs at)
      ∙ sym (ap (λ o. told_of (on_some o (slice_get (c ∷ cs)))) (position_step (λ (d : Clause). nat_eq d.start at) c cs))

  handled : (cs : List Clause) (at : ℕ) → list_any (λ c. in_handler c at) (clauses_meant w file x cs) ≡ list_any (λ c. in_handler c at) (map clause_seen cs)
  handled [] at = refl
  handled (c ∷ cs) at = ap (λ b. in_handler (clause_seen c) at || b) (handled cs at)

  falls_alike : (cs : List Clause) (before : Option ℕ) (at : ℕ) → falls_in_well (clauses_meant w file x cs) before at ≡ falls_in_well (map clause_seen cs) before at
  falls_alike cs None at = ap not (handled cs at)
  falls_alike cs (Some from) at = goes_alike w file x cs from at

on_whole : (o : Option Instruction) (b : Bool) → option_map falls o ≡ option_map (λ i. b) o → unwrap_or (option_map falls o) false ≡ (is_some o && b)
on_whole None b e = refl
on_whole (Some i) b e = cc e

on_act : {A : Type 0} (act : Option Instruction → A → Result (List StackType) (List ℕ)) → ((a : A) → act None a ≡ Err (46 ∷ [])) → (o : Option Instruction) (b : Bool) (a : A) (left : List StackType) → act o a ≡ Ok left → (is_some o && b) ≡ b
on_act act none None b a left e = absurd (cc (sym (none a) ∙ e))
on_act act none (Some i) b a left e = refl

-- ---- the whole

module _ (w : World) (file : ℕ) (x : FilePart) (m : Method) (b : BodyPart) where
  abbrev code : MethodCode
  code = code_meant w file x b

  abbrev exception : CliType
  exception = ClassOf (exception_of w)

  all_go : (at : ℕ) (to : List ℕ) → list_all (may_go (clauses_meant w file x b.clauses) at) to ≡ list_all (may_go (map clause_seen b.clauses) at) to
  all_go at to = all_same (may_go (clauses_meant w file x b.clauses) at) (may_go (map clause_seen b.clauses) at) (goes_alike w file x b.clauses at) to

  stand_alike : (at : ℕ) (s : Shape) (to : List ℕ) → shape_stands (clauses_meant w file x b.clauses) at s to ≡ shape_stands (map clause_seen b.clauses) at s to
  stand_alike at shapes.Return to = none_alike w file x b.clauses at
  stand_alike at shapes.EndFinally to = final_alike w file x b.clauses at
  stand_alike at shapes.Rethrow to = caught_alike w file x b.clauses at
  stand_alike at shapes.Leave to = all_same (may_leave (clauses_meant w file x b.clauses) at) (may_leave (map clause_seen b.clauses) at) (leaves_alike w file x b.clauses at) to
  stand_alike at _ to = all_go at to

  pub stands_told : (p : Placed) (row : Row) → row_of p.instr.op ≡ Some row → stands code.clauses p.at row.shape (instruction_meant w file x b p row) ≡ shape_stands (map clause_seen b.clauses) p.at row.shape (targets_at b.code p)
  stands_told p row listed =
      stands_law (classes_of w) code p.at row.shape (operand_meant w file x b p row)
      ∙ (ap (shape_stands code.clauses p.at row.shape) (targets_law x.metadata w.size w.rows file b.code (classes_of w) code p row listed)
      ∙ stand_alike p.at row.shape (targets_at b.code p))

  abbrev step_here : Option ℕ → Placed → Row → Step
  step_here before p row = step x.metadata w.size w.rows file b.code w.sources exception m code before p row

  tells : (before : Option ℕ) (p : Placed) (row : Row) → row_of p.instr.op ≡ Some row → before ≡ in_front None (instructions_of b.code) p.at → IsTold w file x m b p row (step_here before p row)
  tells before p row listed front =
      let i = instruction_meant w file x b p row in
      let o = operand_meant w file x b p row in
      let goes = targets_law x.metadata w.size w.rows file b.code (classes_of w) code p row listed in
      let falling : unwrap_or (option_map falls i) false ≡ (is_some i && not (is_transfer row.shape)) = on_whole i (not (is_transfer row.shape)) (falls_law (classes_of w) code p.at row.shape o) in
      record {
        at = refl;
        next = refl;
        begins = begun w file x b.clauses p.at;
        tries = tries_alike w file x b.clauses p.at;
        broken =
            lowest_three (stands code.clauses p.at row.shape i) (operand_fits (classes_of w) row.shape o) (numbered m i)
            ∙ ap (λ t. lowest_unless t (operand_fits (classes_of w) row.shape o) (numbered m i)) (stands_told p row listed);
        act = λ types. refl;
        goes = goes;
        falls = falling;
        falls_on = λ types left e. falling ∙ on_act (act_of (program_of w.sources) exception m) (λ ts. refl) i (not (is_transfer row.shape)) types left e;
        falls_well = falls_alike w file x b.clauses before p.at ∙ ap (λ f. falls_in_well (map clause_seen b.clauses) f p.at) front;
      }

  pub told : (at : ℕ) (instr : Instr) (row : Row) (s : Step) → step_at (steps_here w file x m b) at ≡ Some s → instruction_at b.code at ≡ Ok instr → row_of instr.op ≡ Some row → IsTold w file x m b (record { at = at; instr = instr }) row s
  unfolding lines_of
  told at instr row s e stands listed =
      let f = found x.metadata w.size w.rows file b.code w.sources exception m code None (instructions_of b.code) (code_rows b.code) at s e in
      let it : Ok f.placed.instr ≡ Ok instr = sym (found_stands b.code at f.placed f.there) ∙ (ap (instruction_at b.code) f.here ∙ stands) in
      let instr_is : f.placed.instr ≡ instr = cc it in
      let row_there : Some f.row ≡ Some row = sym f.listed ∙ (ap (λ (i : Instr). row_of i.op) instr_is ∙ listed) in
      let row_is : f.row ≡ row = cc row_there in
      let placed_is : Path Placed f.placed (record { at = at; instr = instr }) = ap (λ n. record { at = n; instr = f.placed.instr }) f.here ∙ ap (λ i. record { at = at; instr = i }) instr_is in
      subst (λ q. IsTold w file x m b q row s) placed_is
      (subst (λ r. IsTold w file x m b f.placed r s) row_is
      (subst (λ t. IsTold w file x m b f.placed f.row t) (sym f.same)
      (tells (in_front None (instructions_of b.code) at) f.placed f.row f.listed (ap (in_front None (instructions_of b.code)) (sym f.here)))))

  pub nothing : (at : ℕ) → is_among (starts_of b.code) at ≡ false → step_at (steps_here w file x m b) at ≡ None
  nothing at e = none_found (λ (s : Step). nat_eq s.at at) (steps_here w file x m b) (starts w file x m b at ∙ e)

  pub something : (at : ℕ) → is_among (starts_of b.code) at ≡ true → (s : Step) × (step_at (steps_here w file x m b) at ≡ Some s)
  something at e = some_found (λ (s : Step). nat_eq s.at at) (steps_here w file x m b) (starts w file x m b at ∙ e)

  pub all_lead : (at : ℕ) → is_target (steps_here w file x m b) at ≡ is_among (all_targets b.code) at
  unfolding lines_of
  all_lead at = leads x.metadata w.size w.rows file b.code w.sources exception m code None (instructions_of b.code) (code_rows b.code) at

  pub all_lie : code_fault b.code ≡ None → LieFrom (steps_here w file x m b) 0 (length b.code)
  unfolding lines_of
  all_lie e = lies x.metadata w.size w.rows file b.code w.sources exception m code None (instructions_of b.code) 0 (length b.code) (code_rows b.code) (code_up b.code) (code_whole b.code e)

  pub all_ranked : AreRanked (steps_here w file x m b)
  unfolding lines_of
  all_ranked = ranked x.metadata w.size w.rows file b.code w.sources exception m code None (instructions_of b.code) (code_rows b.code)
