use Rattle.std.proofs.Common.{◌≡◌, ℕ, ◌+◌, length}
use Rattle.classes.specs.Queries.{chain, chain_within}
use Rattle.member_keys.specs.Seen.{class_seen}
use Rattle.class_table.specs.Seen.{classes_seen}
use Rattle.class_order.proofs.chains.count_above.Given as goal

abbrev pub invariant-loop-step : goal.invariant-loop-step
invariant-loop-step l =
    (n : ℕ) → n + l.step ≡ l.table.size → length (chain_within n (classes_seen l.table) (class_seen l.class)) + l.step ≡ length (chain (classes_seen l.table) (class_seen l.fn.class))
