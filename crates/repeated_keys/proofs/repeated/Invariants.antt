use Rattle.std.proofs.Common.{length}
use Rattle.repeated_keys.proofs.RepeatLaws.{IsTold}
use Rattle.repeated_keys.proofs.repeated.Given as goal

abbrev pub invariant-loop-key : goal.invariant-loop-key
invariant-loop-key g l = IsTold g.K.Ord.cmp l.fn.keys.items l.before.items l.nearest l.repeats.items

-- each turn takes a key
abbrev pub decreases-loop-key : goal.decreases-loop-key
decreases-loop-key g l = length l.before.items
