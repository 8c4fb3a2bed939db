use Rattle.row_closure.proofs.WorkLaws.{ListsFront}
use Rattle.row_closure.proofs.work.kept_rows.Given as goal

abbrev pub invariant-loop-row : goal.invariant-loop-row
invariant-loop-row l = record { lists : ListsFront l.kept l.met.items l.row }
