-- What the pass answers.
use Rattle.std.specs.Prelude.{ℕ, List, Option, Some, None, Result, Ok, Err}
use Rattle.code_rules.specs.Pass.{Entry}
use Rattle.verdict_rules.specs.Code.{lowest}
use Rattle.forward_pass.specs.declared.code.Broken.{Broken}

-- the first offset at which something is broken, and the lowest rule that is broken there
abbrev pub told : Result (List Entry) (ℕ × List ℕ) → Option Broken
told (Ok table) = None
told (Err broken) = Some (record { offset = broken.0; rule = lowest broken.1 })
