use Rattle.mfdeploy_top.proofs.JobLaws.{files_left, is_ended}
use Rattle.mfdeploy_top.proofs.mfdeploy.Goals as goal

pub returns : goal.returns
returns g c = record {
  ends = is_ended _ _ _ _ _ _ _ c.outcome_of-outcome.ensures c.tell.ensures;
  files_stay = files_left _ _ _ _ c.outcome_of-outcome.ensures;
}
