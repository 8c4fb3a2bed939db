use Rattle.std.proofs.Common.{◌≡◌, ℕ, length, None}
use Rattle.std.specs.Prelude.{count_by, is_some}
use Rattle.scope_walk.specs.Walk.{value_at}
use Rattle.scope_walk.proofs.walk.unresolved.Given as goal

abbrev pub invariant-loop-n : goal.invariant-loop-n
invariant-loop-n l = record {
  size : length l.types.items ≡ l._n;
  counted : count_by is_some l.types.items ≡ 0;
  unset : (n : ℕ) → value_at l.types.items n ≡ None;
}
