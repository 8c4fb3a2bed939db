use Rattle.wire_packets.proofs.Streams.{packets-whole, packets-short, packets-damaged, unread-whole, unread-short, unread-damaged}
use Rattle.wire_packets.proofs.laws.stream_steps.Goals as goal

pub returns-clause-whole : goal.returns-clause-whole
returns-clause-whole c bytes p n is = (packets-whole bytes p n is, unread-whole bytes p n is)

pub returns-clause-damaged : goal.returns-clause-damaged
returns-clause-damaged c bytes is = (packets-damaged bytes is, unread-damaged bytes is)

pub returns-clause-short : goal.returns-clause-short
returns-clause-short c bytes is = (packets-short bytes is, unread-short bytes is)
