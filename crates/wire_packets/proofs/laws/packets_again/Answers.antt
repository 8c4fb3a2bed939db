use Rattle.wire_packets.proofs.Streams.{packets-spellings}
use Rattle.wire_packets.proofs.laws.packets_again.Goals as goal

pub returns : goal.returns
returns c = packets-spellings
