-- The steps of the forward pass by what a listing tells of a method's bytes.
use Rattle.std.specs.Prelude.{◌≡◌, ℕ, Bool, ◌&&◌, not, nat_eq, if◌then◌else◌, List, [], ◌∷◌, map, slice_get, Option, Some, None, is_some, Ok}
use Rattle.std.specs.List.{list_any, list_all, position}
use Rattle.std.specs.Option.{option_map}
use Rattle.cil_opcodes.specs.declared.shape.Shape.{Shape}
use Rattle.cil_opcodes.specs.declared.shape.Shape.TheVariants as shape
use Rattle.cil_opcodes.specs.declared.shape.Row.{Row}
use Rattle.cil_opcodes.specs.Rows.{is_transfer}
use Rattle.cil_code.specs.declared.clause.Clause.{Clause}
use Rattle.cil_code.specs.Bodies.{BodyPart}
use Rattle.cil_code.specs.Walk.{Placed, instructions_of}
use Rattle.file_tables.specs.File.{FilePart}
use Rattle.machine.specs.Data.{ClassOf}
use Rattle.machine.specs.Program.{Method, Instruction}
use Rattle.machine.specs.Throw.{on_some}
use Rattle.machine_typed.specs.Typing.{StackType}
use Rattle.classes.specs.Code.{CodeClause, Operand}
use Rattle.classes.specs.Clauses.{may_go, may_leave, stands_in_catch, stands_in_finally, stands_in_none}
use Rattle.classes.specs.Listed.{instruction_of, program_of}
use Rattle.assemblies.specs.Binding.{operand}
use Rattle.world_rows.specs.Lines.{raw_operand}
use Rattle.code_rules.specs.Pass.{Step}
use Rattle.code_rules.specs.Judgement.{steps_of}
use Rattle.code_rules.specs.Verdict.{operand_fits, numbered, begun_by, falls_in_well, act_of}
use Rattle.verdict_rules.specs.World.{World, classes_of, exception_of}
use Rattle.code_places.specs.Places.{behind, targets_at}
use Rattle.code_places.specs.Clauses.{clause_seen}
use Rattle.code_tests.specs.Tests.{code_meant, kind_meant}
use Rattle.forward_pass.specs.Told.{lowest_of}

-- the steps of a method with a body
abbrev pub steps_here : World → ℕ → FilePart → Method → BodyPart → List Step
steps_here w file x m b = steps_of w.sources (ClassOf (exception_of w)) m (code_meant w file x b)

-- the operand of an instruction with a row, with what its token names
abbrev pub operand_meant : World → ℕ → FilePart → BodyPart → Placed → Row → Operand
operand_meant w file x b p row = operand w.size w.rows file (raw_operand x.metadata b.code p.at (behind p) row.operand p.instr.operand)

-- the machine's instruction, where the operand is one
abbrev pub instruction_meant : World → ℕ → FilePart → BodyPart → Placed → Row → Option Instruction
instruction_meant w file x b p row = instruction_of (classes_of w) (code_meant w file x b) p.at row.shape (operand_meant w file x b p row)

-- where the instruction in front of the one at an offset begins, if one is in front
abbrev pub in_front : Option ℕ → List Placed → ℕ → Option ℕ
in_front before [] at = None
in_front before (p ∷ ps) at = if nat_eq p.at at then before else in_front (Some p.at) ps at

-- 45 of an instruction of a shape that goes to some places
abbrev pub shape_stands : List CodeClause → ℕ → Shape → List ℕ → Bool
shape_stands cs at shape.Return to = stands_in_none cs at
shape_stands cs at shape.EndFinally to = stands_in_finally cs at
shape_stands cs at shape.Rethrow to = stands_in_catch cs at
shape_stands cs at shape.Leave to = list_all (may_leave cs at) to
shape_stands cs at _ to = list_all (may_go cs at) to

-- the lowest of 45, 46 and 47, by whether each is kept
abbrev pub lowest_unless : Bool → Bool → Bool → Option ℕ
lowest_unless stands fits counts = if stands then (if fits then (if counts then None else Some 47) else Some 46) else Some 45

-- the clause whose handler begins at an offset: the first
abbrev pub handler_at : List Clause → ℕ → Option Clause
handler_at cs at = on_some (position (λ (c : Clause). nat_eq c.start at) cs) (slice_get cs)

-- the step of an instruction with a row
pub record IsTold (w : World) (file : ℕ) (x : FilePart) (m : Method) (b : BodyPart) (p : Placed) (row : Row) (s : Step) : Type 0 where
  pub at : s.at ≡ p.at
  pub next : s.next ≡ behind p
  pub begins : s.begins ≡ option_map (λ c. begun_by (classes_of w) (kind_meant w file x c)) (handler_at b.clauses p.at)
  pub tries : s.tries ≡ list_any (λ (c : Clause). nat_eq c.try_start p.at) b.clauses
  pub broken : lowest_of s.broken ≡ lowest_unless (shape_stands (map clause_seen b.clauses) p.at row.shape (targets_at b.code p)) (operand_fits (classes_of w) row.shape (operand_meant w file x b p row)) (numbered m (instruction_meant w file x b p row))
  pub act : (types : List StackType) → s.act types ≡ act_of (program_of w.sources) (ClassOf (exception_of w)) m (instruction_meant w file x b p row) types
  pub goes : s.goes ≡ targets_at b.code p
  -- control goes on behind it where the opcode lets it; nothing is said of one whose operand names nothing
  pub falls : s.falls ≡ (is_some (instruction_meant w file x b p row) && not (is_transfer row.shape))
  pub falls_on : (types left : List StackType) → s.act types ≡ Ok left → s.falls ≡ not (is_transfer row.shape)
  pub falls_well : s.falls_well ≡ falls_in_well (map clause_seen b.clauses) (in_front None (instructions_of b.code) p.at) p.at
