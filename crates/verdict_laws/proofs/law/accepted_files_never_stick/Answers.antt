use Rattle.verdict_laws.proofs.VerdictLaws.{never_sticks}
use Rattle.verdict_laws.proofs.law.accepted_files_never_stick.Goals as goal

pub returns : goal.returns
returns c xs opened accepted = never_sticks xs accepted opened
