use Rattle.row_closure.specs.Work.{Grows}
use Rattle.row_closure.proofs.WorkLaws.{Follows}
use Rattle.row_closure.proofs.work.follow_all.Given as goal

abbrev pub invariant-loop-number : goal.invariant-loop-number
invariant-loop-number l = record {
  grows : Grows l.rules l.fn.kept l.fn.met.items l.kept l.met.items;
  follows : Follows l.fn.premise l.rules l.fn.row l.fn.kept l.kept l.number;
}

abbrev pub decreases-loop-number : goal.decreases-loop-number
decreases-loop-number l = l.number
