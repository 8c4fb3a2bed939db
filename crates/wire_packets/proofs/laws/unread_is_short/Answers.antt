use Rattle.std.proofs.Common.{[], arith}
use Rattle.wire_packets.proofs.Places.{streamed, unread_is_few}
use Rattle.wire_packets.proofs.laws.unread_is_short.Goals as goal

pub returns : goal.returns
returns c = record { beginning = λ bytes. (streamed 0 bytes []).rest; fewer = λ bytes. (streamed 0 bytes []).fewer; room = λ bytes. let h = unread_is_few bytes in omega arith }
