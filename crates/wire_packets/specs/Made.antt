-- A packet by its parts.
use Rattle.std.specs.Prelude.{ℕ, List}
use Rattle.wire_packets.specs.declared.packet.Packet.{Packet}

abbrev pub packet_with : ℕ → ℕ → ℕ → ℕ → List ℕ → Packet
packet_with command seq reply_seq flags bytes =
    record { command = command; seq = seq; reply_seq = reply_seq; flags = flags; payload = record { items = bytes } }
