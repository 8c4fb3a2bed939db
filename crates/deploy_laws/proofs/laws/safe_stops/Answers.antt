use Rattle.deploy_laws.proofs.Events.{safe_left}
use Rattle.deploy_laws.proofs.laws.safe_stops.Goals as goal

pub returns : goal.returns
returns c parts content es format size bytes possible on i p op got act asked left stopped = safe_left parts content es format size bytes possible on i p op got act asked left stopped
