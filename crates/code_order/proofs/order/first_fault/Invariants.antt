use Rattle.std.proofs.Common.{◌≡◌, ℕ, ◌<◌, None}
use Rattle.judged_classes.specs.Judged.{IsJudged}
use Rattle.code_order.specs.Told.{file_told}
use Rattle.code_order.proofs.order.first_fault.Given as goal

abbrev pub invariant-loop-file : goal.invariant-loop-file
invariant-loop-file l = IsJudged l.subject.world.now → (k : ℕ) → k < l.file → file_told l.subject.world.now k ≡ None
