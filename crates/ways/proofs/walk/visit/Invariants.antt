use Rattle.std.proofs.Common.{◌≡◌, false, None, Some, [], length}
use Rattle.std.specs.Prelude.{slice_get}
use Rattle.ways.specs.declared.walk.Mark.{Mark}
use Rattle.ways.specs.Walk.{is_unknown, StaysMet, Walks, to_do}
use Rattle.ways.proofs.walk.visit.Given as goal

abbrev pub invariant-loop-current : goal.invariant-loop-current
invariant-loop-current g l = record {
  size : length l.walk.marks.items ≡ length l.initial.walk.marks.items;
  walks : Walks (g.W.Ways.next l.ways) l.walk l.current;
  met : StaysMet l.initial.walk.marks.items l.walk.marks.items;
  root : (m : Mark) → slice_get l.walk.marks.items l.root ≡ Some m → is_unknown m ≡ false;
  empty : l.current ≡ None → l.walk.path.items ≡ [];
}

abbrev pub decreases-loop-current : goal.decreases-loop-current
decreases-loop-current g l = to_do l.walk l.current
