-- Which arguments and locals are there, and what an instruction breaks whatever lies on the stack.
use Rattle.std.specs.Prelude.{ℕ, ℤ, unsigned_abs, Bool, true, if◌then◌else◌, nat_lt, length, Option, Some, None}
use Rattle.cil_opcodes.specs.declared.shape.Shape.{Shape}
use Rattle.cil_opcodes.specs.declared.shape.Shape.TheVariants as shape
use Rattle.verify_ops.specs.declared.facts.Facts.{Facts}
use Rattle.verify_ops.specs.Facts.{number_or}

-- the argument or local of an instruction's number is there
abbrev pub counts : Facts → Shape → ℤ → Bool
counts f (shape.LoadArgument k) n = nat_lt (number_or k n) (length f.arguments.now)
counts f shape.LoadArgumentAddress n = nat_lt (unsigned_abs n) (length f.arguments.now)
counts f shape.StoreArgument n = nat_lt (unsigned_abs n) (length f.arguments.now)
counts f (shape.LoadLocal k) n = nat_lt (number_or k n) (length f.locals.now)
counts f (shape.StoreLocal k) n = nat_lt (number_or k n) (length f.locals.now)
counts f shape.LoadLocalAddress n = nat_lt (unsigned_abs n) (length f.locals.now)
counts f _ n = true

-- 46 by the operand, else 47 by the number, by whether each is kept
abbrev pub lowest_of_two : Bool → Bool → Option ℕ
lowest_of_two fits counts = if fits then (if counts then None else Some 47) else Some 46
