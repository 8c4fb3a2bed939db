use Rattle.rows_resolved.proofs.Accepted.{all}
use Rattle.rows_resolved.proofs.law.accepted_files_have_all.Goals as goal

pub returns : goal.returns
returns c = all
