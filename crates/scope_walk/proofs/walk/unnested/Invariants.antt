use Rattle.std.proofs.Common.{◌≡◌, length, map}
use Rattle.scope_walk.specs.Walk.{AreEmpty}
use Rattle.scope_walk.proofs.walk.unnested.Given as goal

abbrev pub invariant-loop-n : goal.invariant-loop-n
invariant-loop-n l = record { size : length l.nested.items ≡ l._n; empty : AreEmpty (map (λ rows. rows.items) l.nested.items) }
