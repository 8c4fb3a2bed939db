use Rattle.std.proofs.Common.{◌≡◌, ℕ, length}
use Rattle.std.specs.Prelude.{Bool, Option, Some, None, slice_get}
use Rattle.class_queries.proofs.below.undecided.Given as goal

abbrev pub invariant-loop-class : goal.invariant-loop-class
invariant-loop-class l = record {
  count : length l.known.items ≡ l._class;
  none : (n : ℕ) (x : Option Bool) → slice_get l.known.items n ≡ Some x → x ≡ None;
}
