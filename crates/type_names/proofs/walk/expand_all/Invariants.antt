use Rattle.std.proofs.Common.{◌≡◌, ◌-◌, length}
use Rattle.type_names.specs.Walk.{IsWalked}
use Rattle.type_names.proofs.walk.expand_all.Given as goal

abbrev pub invariant-loop-at : goal.invariant-loop-at
invariant-loop-at l = record {
  size : length l.walk.resolved.items ≡ length l.initial.walk.resolved.items;
  walked : IsWalked l.names l.file l.walk.resolved.items l.walk.found.items l.at;
}

abbrev pub decreases-loop-at : goal.decreases-loop-at
decreases-loop-at l = length l.walk.resolved.items - l.at
