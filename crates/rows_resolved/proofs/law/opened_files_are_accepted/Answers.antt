use Rattle.rows_resolved.proofs.Accepted.{opened_accepted}
use Rattle.rows_resolved.proofs.law.opened_files_are_accepted.Goals as goal

pub returns : goal.returns
returns c = opened_accepted
