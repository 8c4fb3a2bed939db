use Rattle.std.proofs.Common.{◌≡◌, ℕ, ◌+◌}
use Rattle.classes.specs.Queries.{above, is_sub, reaches}
use Rattle.member_keys.specs.Seen.{class_seen}
use Rattle.class_table.specs.Seen.{classes_seen}
use Rattle.class_queries.proofs.below.is_sub.Given as goal

abbrev pub invariant-loop-step : goal.invariant-loop-step
invariant-loop-step l =
    (n : ℕ) → n + l._step ≡ l.table.size → reaches n (above (classes_seen l.table)) (class_seen l.class) (class_seen l.other) ≡ is_sub (classes_seen l.table) (class_seen l.fn.class) (class_seen l.other)
