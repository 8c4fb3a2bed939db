use Rattle.std.proofs.Common.{◌≡◌, true}
use Rattle.classes.specs.Queries.{above, ends, is_sub}
use Rattle.member_keys.specs.Seen.{class_seen}
use Rattle.class_table.specs.Seen.{classes_seen}
use Rattle.class_queries.specs.Below.{AreBelow}
use Rattle.class_queries.proofs.below.mark_way.Given as goal

abbrev pub invariant-loop-step : goal.invariant-loop-step
invariant-loop-step l = record {
  below : AreBelow l.table (class_seen l.other) l.known;
  ends : ends l.table.size (above (classes_seen l.table)) (class_seen l.class) ≡ true;
  same : is_sub (classes_seen l.table) (class_seen l.class) (class_seen l.other) ≡ l.answer;
}
