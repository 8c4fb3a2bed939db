use Rattle.std.proofs.Common.{◌≡◌, ℕ, ◌<◌, None}
use Rattle.profile_order.specs.Told.{row_told}
use Rattle.profile_order.proofs.order.table_fault.Given as goal

abbrev pub invariant-loop-n : goal.invariant-loop-n
invariant-loop-n l = (k : ℕ) → k < l.n → row_told l.judge.subject.now.world.now l.file l.table k ≡ None
