use Rattle.std.proofs.Common.{◌≡◌, ℕ, ◌<◌, None}
use Rattle.profile_order.specs.Told.{file_told}
use Rattle.profile_order.proofs.order.phase_fault.Given as goal

abbrev pub invariant-loop-file : goal.invariant-loop-file
invariant-loop-file l = (k : ℕ) → k < l.file → file_told l.judge.subject.now.world.now k l.phase ≡ None
