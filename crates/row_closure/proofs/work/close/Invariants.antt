use Rattle.std.proofs.Common.{◌-◌, ◌≤◌, length}
use Rattle.row_closure.specs.Work.{Lists, to_do, Grows, IsSettled}
use Rattle.row_closure.proofs.work.close.Given as goal

abbrev pub invariant-loop-done : goal.invariant-loop-done
invariant-loop-done l = record {
  grows : Grows l.rules l.fn.kept l.initial.met.items l.kept l.met.items;
  lists : Lists l.kept l.met.items;
  inside : l.done ≤ length l.met.items;
  settled : IsSettled l.rules l.kept l.met.items l.done;
}

abbrev pub decreases-loop-done : goal.decreases-loop-done
decreases-loop-done l = to_do l.kept l.met.items - l.done
