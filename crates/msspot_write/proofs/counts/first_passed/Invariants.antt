use Rattle.std.proofs.Common.{◌≡◌, ◌+◌, drop}
use Rattle.msspot_write.specs.Parts.{first_over}
use Rattle.msspot_write.proofs.counts.first_passed.Given as goal

abbrev pub invariant-loop-count : goal.invariant-loop-count
invariant-loop-count l = record { number : l.number ≡ l.limit + l.count-index; rest : first_over l.number (drop l.count-index l.counts) ≡ first_over l.limit l.counts }
