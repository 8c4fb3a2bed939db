use Rattle.std.proofs.Common.{◌≡◌, ◌<◌, ℕ, false, Some, length}
use Rattle.std.specs.Prelude.{slice_get}
use Rattle.ways.specs.declared.walk.Mark.{Mark}
use Rattle.ways.specs.Walk.{is_unknown, IsDone}
use Rattle.ways.proofs.all.visit_all.Given as goal

abbrev pub invariant-loop-node : goal.invariant-loop-node
invariant-loop-node g l = record {
  size : length l.walk.marks.items ≡ length l.initial.walk.marks.items;
  done : IsDone (g.W.Ways.next l.ways) l.walk;
  met : (a : ℕ) (m : Mark) → a < l.node → slice_get l.walk.marks.items a ≡ Some m → is_unknown m ≡ false;
}
