use Rattle.converted.proofs.CutLaws.{same_bytes}
use Rattle.converted.proofs.law.limits_go_by_bytes.Goals as goal

pub returns : goal.returns
returns c = same_bytes
