-- What the step of the verdict's pass makes of the types on the stack, or the lowest rule that it breaks.
use Rattle.std.specs.Prelude.{true, ◌≡◌, ℕ, Bool, ◌++◌, List, [], ◌∷◌, map, Option, Result, Ok, Err}
use Rattle.cil_opcodes.specs.declared.shape.Shape.{Shape}
use Rattle.machine.specs.Data.{CliType}
use Rattle.machine.specs.Program.{Method, Instruction}
use Rattle.machine_typed.specs.Typing.{StackType}
use Rattle.classes.specs.Code.{Operand, Sources}
use Rattle.classes.specs.Listed.{program_of}
use Rattle.classes.specs.Queries.{fits}
use Rattle.code_rules.specs.Verdict.{operand_fits, numbered, unless, act_of}
use Rattle.ecma_types.specs.declared.stack.StackType.{StackType as WorldType}
use Rattle.place_types.specs.Types.{type_up, stack_up, from_top, in_world}
use Rattle.verify_ops.specs.Effects.{lowest, lowest_of}

-- the order of types with rows from 1 is the world's
abbrev pub FitsUp : Sources → (CliType → CliType → Bool) → Type 0
FitsUp x fits' = (a b : CliType) → fits' (type_up a) (type_up b) ≡ fits x.classes a b

-- rules that an instruction breaks whatever lies on the stack, and then those that the stack breaks
abbrev pub with_rules : List ℕ → Result (List StackType) (List ℕ) → Result (List StackType) ℕ
with_rules [] act = lowest_of act
with_rules (r ∷ rs) (Ok us) = Err (lowest (r ∷ rs))
with_rules (r ∷ rs) (Err rules) = Err (lowest ((r ∷ rs) ++ rules))

-- the types that the step leaves, or the lowest of rules 46 to 54 that it breaks
abbrev pub step_effect : Sources → CliType → Method → Shape → Operand → Option Instruction → List StackType → Result (List StackType) ℕ
step_effect x exception m s o i ts =
    with_rules (unless (operand_fits x.classes s o) 46 ++ unless (numbered m i) 47) (act_of (program_of x) exception m i ts)

-- the same with rows from 1
abbrev pub effect_up : Result (List StackType) ℕ → Result (List StackType) ℕ
effect_up (Ok us) = Ok (map stack_up us)
effect_up (Err rule) = Err rule

-- all that the step breaks by itself from 46 on: its operand's rule, its number's, its stack's
abbrev pub rules_of : Result (List StackType) (List ℕ) → List ℕ
rules_of (Ok us) = []
rules_of (Err rules) = rules

abbrev pub step_rules : Sources → CliType → Method → Shape → Operand → Option Instruction → List StackType → List ℕ
step_rules x exception m s o i ts =
    unless (operand_fits x.classes s o) 46 ++ (unless (numbered m i) 47 ++ rules_of (act_of (program_of x) exception m i ts))

-- the step breaks none of them, and leaves these types
pub record StepLeaves (x : Sources) (exception : CliType) (m : Method) (s : Shape) (o : Operand) (i : Option Instruction) (ts us : List StackType) : Type 0 where
  pub operand : operand_fits x.classes s o ≡ true
  pub number : numbered m i ≡ true
  pub acts : act_of (program_of x) exception m i ts ≡ Ok us

-- the types have rows, so that they are told from those with rows from 0
abbrev pub HasRows : List WorldType → Type 0
HasRows ts = map stack_up (in_world ts) ≡ from_top ts
