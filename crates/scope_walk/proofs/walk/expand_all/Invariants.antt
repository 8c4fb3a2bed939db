use Rattle.std.proofs.Common.{◌≡◌, ◌-◌, length}
use Rattle.scope_walk.specs.Walk.{IsWalked}
use Rattle.scope_walk.proofs.walk.expand_all.Given as goal

abbrev pub invariant-loop-at : goal.invariant-loop-at
invariant-loop-at g l = record {
  size : length l.walk.resolved.items ≡ length l.initial.walk.resolved.items;
  walked : IsWalked (g.R.References.rows l.references) l.file l.walk.resolved.items l.walk.found.items l.at;
}

abbrev pub decreases-loop-at : goal.decreases-loop-at
decreases-loop-at g l = length l.walk.resolved.items - l.at
