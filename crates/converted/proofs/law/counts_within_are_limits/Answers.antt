use Rattle.converted.proofs.LimitLaws.{keeps_limits}
use Rattle.converted.proofs.law.counts_within_are_limits.Goals as goal

pub returns : goal.returns
returns c = keeps_limits
