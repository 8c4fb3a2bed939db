-- The instructions of code, one behind the other from its first byte on (ECMA-335 III.1.7.2).
use Rattle.std.specs.Prelude.{ℕ, zero, suc, ◌+◌, ◌-◌, nat_le, Bool, true, not, if◌then◌else◌, List, [], ◌∷◌, length, map, Option, Some, None, option_map, Result, Ok, Err}
use Rattle.std.specs.Option.{option_or, option_map_or}
use Rattle.cil_opcodes.specs.Rows.{row_of, is_transfer}
use Rattle.cil_code.specs.declared.fault.CodeFault.{CodeFault}
use Rattle.cil_code.specs.declared.fault.TheConstants.{PAST_THE_END}
use Rattle.cil_code.specs.declared.instructions.Instr.{Instr}
use Rattle.cil_code.specs.Instructions.{instruction_at, fault_at}

-- an instruction and its offset
pub record Placed : Type 0 where
  pub at : ℕ
  pub instr : Instr

-- the instructions that a walk meets, and the fault that ends it; none where it comes to the end of the code
pub record Walk : Type 0 where
  pub met : List Placed
  pub fault : Option CodeFault

abbrev pub meets : ℕ → Instr → Walk → Walk
meets at instr walk = record { met = record { at = at; instr = instr } ∷ walk.met; fault = walk.fault }

abbrev pub met_at : ℕ → Result Instr CodeFault → (Instr → Walk) → Walk
met_at at (Ok instr) goes_on = meets at instr (goes_on instr)
met_at at (Err fault) goes_on = record { met = []; fault = Some fault }

-- the walk from an offset on, over at most so many instructions
unfoldable pub walk_within : ℕ → List ℕ → ℕ → Walk
walk_within zero code at = record { met = []; fault = None }
walk_within (suc most) code at =
    if nat_le (length code) at then record { met = []; fault = None }
    else met_at at (instruction_at code at) (λ instr. walk_within most code (at + instr.length))

-- The walk from an offset on. Each instruction has a byte at least, so there are no more of them than bytes.
unfoldable pub walk_from : List ℕ → ℕ → Walk
walk_from code at = walk_within (length code - at) code at

-- the place behind an instruction is reached from it
abbrev pub goes_on : Instr → Bool
goes_on instr = option_map_or (λ row. not (is_transfer row.shape)) (row_of instr.op) true

-- where to tell that an end is reached, if it is: at the last instruction before it
abbrev pub reaching : Placed → Option ℕ
reaching last = if goes_on last.instr then Some last.at else None

-- the same behind all of these, with what was to be told before them
abbrev pub reaching_behind : Option ℕ → List Placed → Option ℕ
reaching_behind before [] = before
reaching_behind before (next ∷ others) = reaching_behind (reaching next) others

-- the fault of a walk: its own, or that the end of the code is reached
abbrev pub fault_behind : Option ℕ → Walk → Option CodeFault
fault_behind before walk = option_or walk.fault (option_map (λ at. fault_at at PAST_THE_END) (reaching_behind before walk.met))

-- the first fault of code by the rules of opcodes and ends; code without instructions tells it at 0
unfoldable pub code_fault : List ℕ → Option CodeFault
code_fault code = fault_behind (Some 0) (walk_from code 0)

-- the instructions of code: those that the walk from its first byte on meets
abbrev pub instructions_of : List ℕ → List Placed
instructions_of code = (walk_from code 0).met

-- the offsets at which they start
abbrev pub starts_of : List ℕ → List ℕ
starts_of code = map (λ placed. placed.at) (instructions_of code)
