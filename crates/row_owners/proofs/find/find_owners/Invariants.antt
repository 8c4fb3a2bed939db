use Rattle.std.proofs.Common.{◌≡◌, ℕ, ◌<◌, Some, length, slice_get, take}
use Rattle.row_owners.specs.Owners.{first_span}
use Rattle.row_owners.proofs.find.find_owners.Given as goal

abbrev pub invariant-loop-n : goal.invariant-loop-n
invariant-loop-n l = record {
  size : length l.owners.items ≡ l.count;
  each : (row : ℕ) → row < l.count → slice_get l.owners.items row ≡ Some (first_span (take l.n l.spans) row);
}
