use Rattle.rows_resolved.proofs.Choice.{there}
use Rattle.rows_resolved.proofs.law.resolved_rows_are_there.Goals as goal

pub returns : goal.returns
returns c = there
