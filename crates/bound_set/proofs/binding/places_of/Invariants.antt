use Rattle.std.proofs.Common.{◌≡◌, take}
use Rattle.bound_set.proofs.binding.places_of.Given as goal

abbrev pub invariant-loop-k : goal.invariant-loop-k
invariant-loop-k l = l.places.items ≡ take l.k l.set.at
