use Rattle.board_core.proofs.HandlingLaws.{reply_is, works_is, quiet_is}
use Rattle.board_core.proofs.law.deliveries.Goals as goal

pub returns-clause-reply : goal.returns-clause-reply
returns-clause-reply c = reply_is

pub returns-clause-works : goal.returns-clause-works
returns-clause-works c = works_is

pub returns-clause-quiet : goal.returns-clause-quiet
returns-clause-quiet c = quiet_is
