use Rattle.std.proofs.Common.{◌≡◌, ℕ, ◌+◌}
use Rattle.member_keys.specs.Seen.{class_seen}
use Rattle.class_table.specs.Seen.{classes_seen}
use Rattle.class_order.specs.Order.{climbed}
use Rattle.class_order.proofs.chains.climb.Given as goal

abbrev pub invariant-loop-step : goal.invariant-loop-step
invariant-loop-step l =
    (n : ℕ) → n + l._step ≡ l.steps → climbed n (classes_seen l.table) (class_seen l.class) ≡ climbed l.steps (classes_seen l.table) (class_seen l.fn.class)
