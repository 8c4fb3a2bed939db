use Rattle.std.proofs.Common.{◌≤◌, length}
use Rattle.first_places.proofs.PlaceLaws.{FindsBehind}
use Rattle.first_places.proofs.first_places.Given as goal

abbrev pub invariant-loop-key : goal.invariant-loop-key
invariant-loop-key g l = record {
  fewer : length l.before.items ≤ length l.fn.keys.items;
  finds : FindsBehind g.K.Ord.cmp l.fn.keys.items l.before.items l.places;
}

-- each turn takes a key
abbrev pub decreases-loop-key : goal.decreases-loop-key
decreases-loop-key g l = length l.before.items
