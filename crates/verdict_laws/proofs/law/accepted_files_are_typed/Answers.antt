use Rattle.verdict_laws.proofs.VerdictLaws.{typed}
use Rattle.verdict_laws.proofs.law.accepted_files_are_typed.Goals as goal

pub returns : goal.returns
returns c xs opened accepted = typed xs accepted opened
