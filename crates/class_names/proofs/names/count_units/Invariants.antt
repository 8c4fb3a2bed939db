use Rattle.std.proofs.Common.{◌≡◌, ℕ, ◌+◌, ◌*◌, ◌≤◌, length}
use Rattle.member_keys.specs.Seen.{class_seen}
use Rattle.class_table.specs.Seen.{classes_seen}
use Rattle.class_names.specs.Units.{full_units, units_within}
use Rattle.class_names.proofs.names.count_units.Given as goal

abbrev pub invariant-loop-step : goal.invariant-loop-step
invariant-loop-step l =
    record {
      rest : (n : ℕ) → n + l._step ≡ l.table.size → l.count + length (units_within n (classes_seen l.table) (class_seen l.class)) ≡ length (full_units (classes_seen l.table) (class_seen l.fn.class));
      few : l.count ≤ l._step * 18446744073709551616;
    }
