use Rattle.std.proofs.Common.{◌≡◌, length, map}
use Rattle.class_reading.specs.Interfaces.{AreEmpty}
use Rattle.class_reading.proofs.interfaces.no_interfaces.Given as goal

abbrev pub invariant-loop-n : goal.invariant-loop-n
invariant-loop-n l = record { size : length l.lists.items ≡ l._n; empty : AreEmpty (map (λ list. list.items) l.lists.items) }
