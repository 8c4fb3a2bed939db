use Rattle.std.proofs.Common.{◌≡◌, ℕ, ◌+◌, ◌++◌, map}
use Rattle.classes.specs.Queries.{chain, chain_within}
use Rattle.member_keys.specs.Seen.{class_seen}
use Rattle.class_table.specs.Seen.{classes_seen}
use Rattle.class_fields.proofs.chain.superclass_chain.Given as goal

abbrev pub invariant-loop-step : goal.invariant-loop-step
invariant-loop-step l =
    (n : ℕ) → n + l._step ≡ l.table.size → map class_seen l.classes.items ++ chain_within n (classes_seen l.table) (class_seen l.class) ≡ chain (classes_seen l.table) (class_seen l.fn.class)
