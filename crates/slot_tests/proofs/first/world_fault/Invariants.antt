use Rattle.std.proofs.Common.{◌≡◌, ℕ, ◌<◌, None}
use Rattle.slot_tests.specs.Told.{file_told}
use Rattle.slot_tests.proofs.first.world_fault.Given as goal

abbrev pub invariant-loop-file : goal.invariant-loop-file
invariant-loop-file l = (k : ℕ) → k < l.file → file_told l.subject.world.now k ≡ None
