use Rattle.std.proofs.Common.{◌≡◌, length, map}
use Rattle.type_names.specs.Walk.{AreEmpty}
use Rattle.type_names.proofs.walk.unnested.Given as goal

abbrev pub invariant-loop-n : goal.invariant-loop-n
invariant-loop-n l = record { size : length l.nested.items ≡ l._n; empty : AreEmpty (map (λ rows. rows.items) l.nested.items) }
