use Rattle.wire_session.specs.Answering.{nothing_done}
use Rattle.wire_session.proofs.Sessions.{numbers_follow}
use Rattle.wire_session.proofs.laws.done_in_order.Goals as goal

pub returns : goal.returns
returns c reply packets = numbers_follow reply nothing_done packets
