-- The tests of a method's code before the forward pass: 41 to 44.
use Rattle.std.specs.Prelude.{ℕ, suc, Bool, false, ◌&&◌, cond, if◌then◌else◌, List, [], ◌∷◌, ◌++◌, map, take, slice_index_or, Option, Some, None, unwrap_or}
use Rattle.std.specs.Option.{option_map}
use Rattle.cil_code.specs.declared.clause.Clause.{Clause}
use Rattle.cil_code.specs.declared.fault.CodeFault.{CodeFault}
use Rattle.cil_code.specs.Bodies.{BodyPart}
use Rattle.cil_code.specs.Walk.{code_fault}
use Rattle.file_tables.specs.File.{FilePart}
use Rattle.machine.specs.Data.{ClassOf}
use Rattle.machine.specs.Program.{Method, Instruction}
use Rattle.classes.specs.Code.{CodeClauseKind, CodeClause, MethodCode}
use Rattle.assemblies.specs.Binding.{numbered, kind_with, clause_with, code_with}
use Rattle.world_rows.specs.Lines.{raw_kind, raw_clause, raw_code}
use Rattle.code_rules.specs.Pass.{Step}
use Rattle.code_rules.specs.Flow.{targets}
use Rattle.code_rules.specs.Judgement.{catches_well, steps_of}
use Rattle.code_places.specs.Clauses.{clause_seen, stands_well}
use Rattle.verdict_rules.specs.Order.{Test, test_at}
use Rattle.verdict_rules.specs.World.{World, classes_of, exception_of}
use Rattle.verdict_rules.specs.Code.{walk_test, target_test, clause_test}

-- the first of the tests that fails
abbrev pub first_broken : List Test → Option Test
first_broken [] = None
first_broken (t ∷ ts) = cond t.is_kept (first_broken ts) (Some t)

abbrev pub test_of : CodeFault → Test
test_of f = test_at f.rule f.offset false

-- the code of a body, with what its tokens name
abbrev pub code_meant : World → ℕ → FilePart → BodyPart → MethodCode
code_meant w file x b = code_with w.size w.rows file (raw_code x.metadata b)

-- which exceptions a clause takes, with what its token names
abbrev pub kind_meant : World → ℕ → FilePart → Clause → CodeClauseKind
kind_meant w file x c = kind_with w.size w.rows file (raw_kind x.metadata c.kind c.token)

abbrev pub clause_meant : World → ℕ → FilePart → Clause → CodeClause
clause_meant w file x c = clause_with w.size w.rows file (raw_clause x.metadata c)

abbrev pub clauses_meant : World → ℕ → FilePart → List Clause → List CodeClause
clauses_meant w file x cs = map (clause_with w.size w.rows file) (map (raw_clause x.metadata) cs)

-- the tests of some code and its steps
abbrev pub tests_of : World → MethodCode → List Step → List Test
tests_of w code steps = map (target_test w code steps) code.lines ++ numbered (clause_test w steps code.clauses) 0 code.clauses

-- those of a method with a body
abbrev pub tests_before : World → ℕ → FilePart → Method → BodyPart → List Test
tests_before w file x m b =
    let code = code_meant w file x b in
    walk_test (code_fault b.code) ∷ tests_of w code (steps_of w.sources (ClassOf (exception_of w)) m code)

-- where an instruction goes by a branch, a leave or a switch
abbrev pub goes_to : Option Instruction → List ℕ
goes_to i = unwrap_or (option_map targets i) []

-- ---- clause by clause

-- whether it is a finally, or a catch that may take its class
abbrev pub handles_well : World → ℕ → FilePart → Clause → Bool
handles_well w file x c = catches_well (classes_of w) (exception_of w) (kind_meant w file x c)

-- 44 of a clause of a number, where it is told of each whether it handles well
abbrev pub clause_keeps : List Bool → BodyPart → ℕ → Clause → Bool
clause_keeps handled b n c = slice_index_or handled n false && stands_well b.code (map clause_seen (take n b.clauses)) (clause_seen c)

-- where the first that doesn't keep it begins, of clauses from a number on
abbrev pub first_wrong : (ℕ → Clause → Bool) → ℕ → List Clause → Option ℕ
first_wrong keeps n [] = None
first_wrong keeps n (c ∷ cs) = if keeps n c then first_wrong keeps (suc n) cs else Some c.try_start
