use Rattle.std.proofs.Common.{[]}
use Rattle.wire_packets.proofs.Places.{streamed, nth_ends, pieces}
use Rattle.wire_packets.proofs.laws.ends_of_packets.Goals as goal

pub returns : goal.returns
returns c = record { packets = λ from bytes. (streamed from bytes []).same; inside = nth_ends; pieces = pieces }
