use Rattle.std.proofs.Common.{◌≡◌, ℕ, ◌<◌, Some, length}
use Rattle.std.specs.Prelude.{slice_get}
use Rattle.class_queries.specs.Numbers.{start_at}
use Rattle.class_queries.proofs.numbers.number_classes.Given as goal

abbrev pub invariant-loop-file : goal.invariant-loop-file
invariant-loop-file l = record {
  count : length l.starts.items ≡ l.file-index;
  starts : (k : ℕ) → k < l.file-index → slice_get l.starts.items k ≡ Some (start_at l.table k);
  total : l.total ≡ start_at l.table l.file-index;
  few : l.total < 4294967295;
}
