use Rattle.rows_resolved.proofs.Accepted.{members}
use Rattle.rows_resolved.proofs.law.accepted_members_stand.Goals as goal

pub returns : goal.returns
returns c = members
