use Rattle.std.proofs.Common.{◌≡◌, length}
use Rattle.classes.specs.Queries.{chain, common_superclass}
use Rattle.member_keys.specs.Seen.{class_seen}
use Rattle.class_table.specs.Seen.{classes_seen}
use Rattle.class_order.proofs.chains.meet.Given as goal

abbrev pub invariant-up : goal.invariant-up
invariant-up l = record {
  level : length (chain (classes_seen l.table) (class_seen l.a)) ≡ length (chain (classes_seen l.table) (class_seen l.b));
  same : common_superclass (classes_seen l.table) (class_seen l.a) (class_seen l.b) ≡ common_superclass (classes_seen l.table) (class_seen l.fn.a) (class_seen l.fn.b);
}

abbrev pub decreases-up : goal.decreases-up
decreases-up l = length (chain (classes_seen l.table) (class_seen l.a))
