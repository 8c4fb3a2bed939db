-- What stands in front of an instruction, where it may go, and whether its operand is a token.
use Rattle.std.specs.Prelude.{◌≡◌, ℕ, ◌<◌, Bool, true, false, if◌then◌else◌, List, Option, Some, None}
use Rattle.cil_opcodes.specs.declared.shape.Operand.{Operand}
use Rattle.cil_opcodes.specs.declared.shape.Operand.TheVariants as kinds
use Rattle.cil_code.specs.Walk.{starts_of}
use Rattle.classes.specs.Code.{CodeClause}
use Rattle.classes.specs.Clauses.{may_go, may_leave}
use Rattle.code_places.specs.Among.{is_among}

-- the nearest start below an offset, if there is one
abbrev pub IsFront : List ℕ → ℕ → Option ℕ → Type 0
IsFront code at (Some before) = (is_among (starts_of code) before ≡ true) × (before < at) × ((k : ℕ) → before < k → k < at → is_among (starts_of code) k ≡ false)
IsFront code at None = (k : ℕ) → k < at → is_among (starts_of code) k ≡ false

-- control may go from one offset to another, by a `leave` or by a branch
abbrev pub lets : List CodeClause → Bool → ℕ → ℕ → Bool
lets cs leaves from to = if leaves then may_leave cs from to else may_go cs from to

-- an operand of a kind is a token (III.1.9)
abbrev pub is_token : Operand → Bool
is_token kinds.TypeToken = true
is_token kinds.FieldToken = true
is_token kinds.MethodToken = true
is_token kinds.StringToken = true
is_token kinds.AnyToken = true
is_token _ = false
