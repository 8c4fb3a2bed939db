use Rattle.board_core.proofs.HandlingLaws.{handled_leaves}
use Rattle.board_core.proofs.law.moments_of_deliveries.Goals as goal

pub returns : goal.returns
returns c = handled_leaves
