use Rattle.std.proofs.Common.{◌≡◌, ℕ, length}
use Rattle.std.specs.Prelude.{Option, Some, None, slice_get}
use Rattle.tiny_types.specs.declared.found.FoundTarget.{FoundTarget}
use Rattle.tiny_types.proofs.found.no_targets.Given as goal

abbrev pub invariant-loop-place : goal.invariant-loop-place
invariant-loop-place l = record {
  count : length l.found.items ≡ l._place;
  none : (n : ℕ) (x : Option FoundTarget) → slice_get l.found.items n ≡ Some x → x ≡ None;
}
