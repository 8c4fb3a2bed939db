use Rattle.member_keys.specs.Seen.{class_seen}
use Rattle.class_queries.specs.Below.{AreBelow}
use Rattle.class_queries.proofs.below.classes_below.Given as goal

abbrev pub invariant-loop-class : goal.invariant-loop-class
invariant-loop-class l = record { below : AreBelow l.table (class_seen l.other) l.known.items }
