-- What an instruction makes of the types on the stack, or which rule it breaks: the machine's rows over what is known.
use Rattle.std.specs.Prelude.{◌≡◌, ℕ, Bool, true, false, min, if◌then◌else◌, List, [], ◌∷◌, Option, Some, None, Result, Ok, Err}
use Rattle.std.specs.List.{list_any}
use Rattle.ecma_types.specs.declared.stack.StackType.{StackType as WorldType}
use Rattle.cil_opcodes.specs.declared.shape.Shape.{Shape}
use Rattle.cil_opcodes.specs.declared.shape.Shape.TheVariants.{Nop}
use Rattle.cil_opcodes.specs.Rows.{row_of}
use Rattle.cil_code.specs.declared.instructions.Instr.{Instr}
use Rattle.machine.specs.Data.{CliType}
use Rattle.machine.specs.Program.{Instruction}
use Rattle.machine_typed.specs.Typing.{StackType, Never}
use Rattle.code_rules.specs.Verdict.{numbered, act_of}
use Rattle.verify_ops.specs.declared.facts.Facts.{Facts}
use Rattle.verify_ops.specs.declared.facts.OpRefusal.{OpRefusal}
use Rattle.verify_ops.specs.declared.facts.OpRefusal.TheVariants as refusal
use Rattle.place_types.specs.Types.{type_of, from_top}
use Rattle.verify_ops.specs.Facts.{operand_fits, instruction_by, method_by, program_by}

abbrev pub lowest : List ℕ → ℕ
lowest [] = 54
lowest (r ∷ rs) = min r (lowest rs)

abbrev pub is_never : StackType → Bool
is_never Never = true
is_never _ = false

-- a value of a type that no value has is loaded nowhere: 53
abbrev pub loads : Result (List StackType) (List ℕ) → Result (List StackType) (List ℕ)
loads (Ok us) = if list_any is_never us then Err (53 ∷ []) else Ok us
loads (Err rules) = Err rules

abbrev pub lowest_of : Result (List StackType) (List ℕ) → Result (List StackType) ℕ
lowest_of (Ok us) = Ok us
lowest_of (Err rules) = Err (lowest rules)

-- 46 by the operand, then 47 by the number of an argument or local, then the lowest of those that the row names
abbrev pub effect_by : (CliType → CliType → Bool) → Facts → Shape → Option Instruction → List StackType → Result (List StackType) ℕ
effect_by fits facts shape i ts =
    if operand_fits shape facts.operand
    then (if numbered (method_by facts) i
    then lowest_of (loads (act_of (program_by fits facts.operand) (type_of facts.exception) (method_by facts) i ts))
    else Err 47)
    else Err 46

-- the opcode is one of the table's
unfoldable pub shape_of : ℕ → Shape
shape_of op = elim (row_of op) [ None ↦ Nop | Some row ↦ row.shape ]

abbrev pub effect_of : (CliType → CliType → Bool) → Instr → Facts → List WorldType → Result (List StackType) ℕ
effect_of fits op facts stack =
    effect_by fits facts (shape_of op.op) (instruction_by (shape_of op.op) op.operand facts.operand) (from_top stack)

-- the types that are left, or the rule; nothing is said where memory is wanting
abbrev pub Gives : {A : Type 0} → (A → List WorldType) → Result A OpRefusal → Result (List StackType) ℕ → Type 0
Gives types (Ok us) r = r ≡ Ok (from_top (types us))
Gives types (Err (refusal.Broken rule)) r = r ≡ Err rule
Gives types (Err refusal.NoMemory) r = Unit {0}

-- what lies there afterwards; what was there where a rule is broken
abbrev pub Leaves : {A : Type 0} → Result A OpRefusal → List WorldType → List WorldType → Result (List StackType) ℕ → Type 0
Leaves (Ok done) before after r = r ≡ Ok (from_top after)
Leaves (Err (refusal.Broken rule)) before after r = (r ≡ Err rule) × (after ≡ before)
Leaves (Err refusal.NoMemory) before after r = Unit {0}
