use Rattle.kept_image.proofs.CutLimitLaws.{limits_stay}
use Rattle.kept_image.proofs.law.limits_stay_where_signatures_fit.Goals as goal

pub returns : goal.returns
returns c = limits_stay
