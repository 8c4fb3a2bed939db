-- How a packet is spelt. All numbers are little-endian.
use Rattle.std.specs.Prelude.{◌≡◌, ℕ, ◌+◌, ◌^◌, ◌<◌, ◌≤◌, List, [], ◌∷◌, ◌++◌, length, sum}
use Rattle.byteorder.specs.Endian.{little_bytes}
use Rattle.little_endian.specs.Numbers.{AreBytes}
use Rattle.wire_packets.specs.declared.packet.Packet.{Packet}
use Rattle.wire_packets.specs.declared.packet.TheConstants.{MAX_PAYLOAD}

-- "MSpktV1" and a zero, the first eight bytes of every packet
abbrev pub signature : List ℕ
signature = 0x4D ∷ 0x53 ∷ 0x70 ∷ 0x6B ∷ 0x74 ∷ 0x56 ∷ 0x31 ∷ 0x00 ∷ []

-- bytes 12 to 31: the data check, the packet's numbers, and the size of the payload
abbrev pub fields : Packet → List ℕ
fields p =
    little_bytes 4 (sum p.payload.items) ++ little_bytes 4 p.command ++ little_bytes 2 p.seq
    ++ little_bytes 2 p.reply_seq ++ little_bytes 4 p.flags ++ little_bytes 4 (length p.payload.items)

-- the 32 bytes before the payload; the header check is the sum of all of them but its own
abbrev pub header : Packet → List ℕ
header p = signature ++ little_bytes 4 (sum signature + sum (fields p)) ++ fields p

-- the one spelling of a packet
unfoldable pub spelling : Packet → List ℕ
spelling p = header p ++ p.payload.items

-- what can be spelt: numbers of their widths, a request or a reply, at most 1,024 bytes of payload
pub record IsPacket (p : Packet) : Type 0 where
  pub command : p.command < 2 ^ 32
  pub seq : p.seq < 2 ^ 16
  pub reply_seq : p.reply_seq < 2 ^ 16
  pub flags : p.flags < 2
  pub size : length p.payload.items ≤ MAX_PAYLOAD
  pub payload : AreBytes p.payload.items

-- the bytes are the packet's
pub record Spells (p : Packet) (bytes : List ℕ) : Type 0 where
  pub packet : IsPacket p
  pub spelt : bytes ≡ spelling p
