use Rattle.board_core.proofs.HandlingLaws.{stop_is}
use Rattle.board_core.proofs.law.stopped_deliveries.Goals as goal

pub returns : goal.returns
returns c = stop_is
