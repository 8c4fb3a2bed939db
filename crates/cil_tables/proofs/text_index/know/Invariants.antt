use Rattle.std.proofs.Common.{◌*◌, ◌/◌, ◌≤◌, length}
use Rattle.cil_tables.specs.Texts.{KnowsFrom}
use Rattle.cil_tables.proofs.text_index.know.Given as goal

abbrev pub invariant-loop-place : goal.invariant-loop-place
invariant-loop-place l = record { small : l.place ≤ 4 * (length l.known / 4); knows : KnowsFrom l.heap l.block l.known l.place }

abbrev pub decreases-loop-place : goal.decreases-loop-place
decreases-loop-place l = l.place
