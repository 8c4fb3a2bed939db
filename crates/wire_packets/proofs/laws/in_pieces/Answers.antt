use Rattle.wire_packets.proofs.Streams.{packets-append, unread-append}
use Rattle.wire_packets.proofs.laws.in_pieces.Goals as goal

pub returns-clause-packets : goal.returns-clause-packets
returns-clause-packets c = packets-append

pub returns-clause-unread : goal.returns-clause-unread
returns-clause-unread c = unread-append
