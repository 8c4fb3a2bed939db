use Rattle.std.proofs.Common.{◌≡◌, ℕ, ◌<◌, None}
use Rattle.slot_tests.specs.Told.{row_told}
use Rattle.slot_tests.proofs.first.file_fault.Given as goal

abbrev pub invariant-loop-n : goal.invariant-loop-n
invariant-loop-n l = (k : ℕ) → k < l.n → row_told l.subject.world.now l.file k ≡ None
