use Rattle.std.proofs.Common.{◌≡◌, ℕ, Some, length}
use Rattle.std.specs.Prelude.{slice_get}
use Rattle.ways.specs.declared.walk.Mark.{Mark}
use Rattle.ways.specs.declared.walk.Mark.TheVariants as mark
use Rattle.ways.proofs.all.begin.Given as goal

abbrev pub invariant-loop-node : goal.invariant-loop-node
invariant-loop-node l = record {
  size : length l.marks.items ≡ l._node;
  fresh : (a : ℕ) (m : Mark) → slice_get l.marks.items a ≡ Some m → m ≡ mark.Unknown;
}
