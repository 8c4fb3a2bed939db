-- Rules 31 and 40 to 54: slots, and the code of each method.
use Rattle.std.specs.Prelude.{ℕ, min, Bool, true, false, ◌&&◌, if◌then◌else◌, List, [], ◌∷◌, ◌++◌, map, take, slice_index, Option, Some, None, unwrap_or, Result, Ok, Err}
use Rattle.std.specs.List.{list_all}
use Rattle.std.specs.Option.{option_map}
use Rattle.cil_code.specs.declared.fault.CodeFault.{CodeFault}
use Rattle.cil_code.specs.Bodies.{BodyPart}
use Rattle.cil_code.specs.Walk.{code_fault}
use Rattle.file_tables.specs.File.{FilePart}
use Rattle.machine.specs.Data.{ClassOf}
use Rattle.machine.specs.Program.{Method, Body, Code}
use Rattle.machine.specs.Throw.{on_some}
use Rattle.classes.specs.Clauses.{is_proper, lies_well}
use Rattle.classes.specs.Code.{CodeLine, CodeClause, MethodCode}
use Rattle.classes.specs.Listed.{method, method_with, no_code}
use Rattle.classes.specs.Queries.{or_else}
use Rattle.class_rules.specs.Rules.{slots_filled}
use Rattle.assemblies.specs.Binding.{id_at, numbered, code_with}
use Rattle.world_rows.specs.Tokens.{type_defs, methods}
use Rattle.world_rows.specs.Lines.{body_part, raw_code}
use Rattle.world_rows.specs.Rows.{is_internal}
use Rattle.code_rules.specs.Pass.{Entry, Step}
use Rattle.code_rules.specs.Verdict.{passed}
use Rattle.code_rules.specs.Judgement.{lattice_of, is_targeted, on_starts, catches_well, steps_of}
use Rattle.verdict_rules.specs.Order.{Test, test, test_at, FileRules}
use Rattle.verdict_rules.specs.World.{World, classes_of, method_row, no_type, exception_of}
use Rattle.verdict_rules.specs.Types.{of_class}

-- ---- 31

abbrev pub slot_tests : World → ℕ → ℕ → List ℕ → List Test
slot_tests w file n row = of_class ((classes_of w).class (id_at file n)) (λ k. test 31 (slots_filled (classes_of w) (id_at file n) k) ∷ [])

abbrev pub slot_rules : World → ℕ → FilePart → FileRules
slot_rules w file x = record { tables = record { table = type_defs; tests = slot_tests w file } ∷ []; whole = [] }

-- ---- a method as the machine has it; one that no type has takes a `this` of no class

abbrev pub unowned : World → ℕ → FilePart → ℕ → Option Method
unowned w file x n =
    on_some (method_row w file n) (λ m. option_map (λ s. method_with (classes_of w) (no_type file x) m s (unwrap_or (w.sources.code (id_at file n)) no_code)) m.signature)

abbrev pub method_here : World → ℕ → FilePart → ℕ → Option Method
method_here w file x n = or_else (method w.sources (id_at file n)) (unowned w file x n)

-- ---- 41, 42: as the walk meets them

abbrev pub walk_test : Option CodeFault → Test
walk_test None = test 41 true
walk_test (Some fault) = test_at fault.rule fault.offset false

-- ---- 43: by offset

abbrev pub target_test : World → MethodCode → List Step → CodeLine → Test
target_test w code steps l = test_at 43 l.at (is_targeted (classes_of w) code steps l)

-- ---- 44: each clause against itself and those before it, told at its try

abbrev pub clause_well : World → List Step → List CodeClause → CodeClause → Bool
clause_well w steps before c =
    catches_well (classes_of w) (exception_of w) c.kind && (on_starts steps c && (is_proper c && list_all (λ b. lies_well b c) before))

abbrev pub clause_test : World → List Step → List CodeClause → ℕ → CodeClause → Test
clause_test w steps clauses n c = test_at 44 c.try_start (clause_well w steps (take n clauses) c)

-- ---- 45 to 54: the forward pass, with the lowest of the rules that are broken at the first offset where one is

abbrev pub lowest : List ℕ → ℕ
lowest [] = 54
lowest (r ∷ rs) = min r (lowest rs)

abbrev pub pass_test : Result (List Entry) (ℕ × List ℕ) → Test
pass_test (Ok table) = test 45 true
pass_test (Err broken) = test_at (lowest broken.1) broken.0 false

-- ---- the whole

abbrev pub listing_tests : World → Method → MethodCode → List Step → List Test
listing_tests w m code steps =
    map (target_test w code steps) code.lines
    ++ (numbered (clause_test w steps code.clauses) 0 code.clauses ++ pass_test (passed w.sources (lattice_of w.sources) (ClassOf (exception_of w)) m code) ∷ [])

abbrev pub listed_tests : World → Method → MethodCode → List Test
listed_tests w m code = listing_tests w m code (steps_of w.sources (ClassOf (exception_of w)) m code)

-- 40: header, sections, size and locals token are sound; an internal call has no body
abbrev pub body_of : FilePart → List ℕ → Option BodyPart
body_of x row = if is_internal row then None else body_part x (slice_index row 0)

abbrev pub body_tests : World → ℕ → FilePart → Method → Option BodyPart → List Test
body_tests w file x m None = test 40 false ∷ []
body_tests w file x m (Some b) = walk_test (code_fault b.code) ∷ listed_tests w m (code_with w.size w.rows file (raw_code x.metadata b))

abbrev pub is_code : Body → Bool
is_code Code = true
is_code _ = false

abbrev pub method_tests : World → ℕ → FilePart → List ℕ → Option Method → List Test
method_tests w file x row None = []
method_tests w file x row (Some m) = if is_code m.body then body_tests w file x m (body_of x row) else []

abbrev pub code_tests : World → ℕ → FilePart → ℕ → List ℕ → List Test
code_tests w file x n row = method_tests w file x row (method_here w file x n)

abbrev pub code_rules : World → ℕ → FilePart → FileRules
code_rules w file x = record { tables = record { table = methods; tests = code_tests w file x } ∷ []; whole = [] }
