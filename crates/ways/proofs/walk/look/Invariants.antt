use Rattle.ways.specs.Looked.{Lengthens}
use Rattle.ways.proofs.walk.look.Given as goal

abbrev pub invariant-loop-edge : goal.invariant-loop-edge
invariant-loop-edge g l = record {
  lengthens : Lengthens (g.W.Ways.next l.ways) l.walk.marks.items l.place l.edge l.height;
}
