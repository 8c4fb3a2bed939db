use Rattle.std.proofs.Common.{◌≡◌, ℕ, ◌+◌}
use Rattle.member_keys.specs.Seen.{class_seen}
use Rattle.class_table.specs.Seen.{classes_seen}
use Rattle.class_names.specs.Units.{full_units, units_within}
use Rattle.class_names.specs.Ends.{from_end}
use Rattle.class_names.proofs.names.unit_from_end.Given as goal

abbrev pub invariant-loop-step : goal.invariant-loop-step
invariant-loop-step l =
    (n : ℕ) → n + l._step ≡ l.table.size → from_end (units_within n (classes_seen l.table) (class_seen l.class)) l.left ≡ from_end (full_units (classes_seen l.table) (class_seen l.fn.class)) l.fn.behind
