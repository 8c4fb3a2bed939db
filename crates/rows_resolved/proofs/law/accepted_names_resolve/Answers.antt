use Rattle.rows_resolved.proofs.Accepted.{resolve}
use Rattle.rows_resolved.proofs.law.accepted_names_resolve.Goals as goal

pub returns : goal.returns
returns c = resolve
