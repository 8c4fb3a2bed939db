use Rattle.kept_closure.proofs.ClosedLaws.{closed_law}
use Rattle.kept_closure.proofs.law.kept_rows_are_closed.Goals as goal

pub returns : goal.returns
returns c = closed_law
