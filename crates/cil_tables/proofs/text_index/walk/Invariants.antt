use Rattle.std.proofs.Common.{◌≡◌, ◌+◌, ◌-◌, ◌<◌}
use Rattle.cil_tables.specs.Texts.{begins}
use Rattle.cil_tables.proofs.text_index.walk.Given as goal

abbrev pub invariant-loop-at : goal.invariant-loop-at
invariant-loop-at l = record { same : begins l.heap l.fn.start ≡ begins l.heap l.at; near : l.at < l.next + 4 }

abbrev pub decreases-loop-at : goal.decreases-loop-at
decreases-loop-at l = l.next + 4 - l.at
