-- The packets of a stream of bytes.
use Rattle.std.specs.Prelude.{ℕ, zero, suc, List, [], ◌∷◌, length, drop}
use Rattle.wire_packets.specs.declared.packet.Packet.{Packet}
use Rattle.wire_packets.specs.declared.decoding.Decoded.{Decoded}
use Rattle.wire_packets.specs.declared.decoding.Decoded.TheVariants.{Whole, Short, Damaged}
use Rattle.wire_packets.specs.Decoding.{decoded}

-- the packets after what stands at the front, where more k are those once k bytes are taken away
abbrev pub packets_after : Decoded → (ℕ → List Packet) → List Packet
packets_after (Whole p k) more = p ∷ more k
packets_after Short more = []
packets_after Damaged more = more 1

-- the packets in bytes of which there are at most so many
unfoldable pub packets_within : ℕ → List ℕ → List Packet
packets_within zero bytes = []
packets_within (suc n) bytes = packets_after (decoded bytes) (λ k. packets_within n (drop k bytes))

-- the packets of a stream, read from its front; one byte is dropped where they are damaged, and reading ends
-- where they are short
abbrev pub packets : List ℕ → List Packet
packets bytes = packets_within (length bytes) bytes

-- the rest after what stands at the front
abbrev pub rest_after : Decoded → List ℕ → (ℕ → List ℕ) → List ℕ
rest_after (Whole p k) bytes more = more k
rest_after Short bytes more = bytes
rest_after Damaged bytes more = more 1

unfoldable pub rest_within : ℕ → List ℕ → List ℕ
rest_within zero bytes = bytes
rest_within (suc n) bytes = rest_after (decoded bytes) bytes (λ k. rest_within n (drop k bytes))

-- what is left of a stream where reading ends
abbrev pub unread : List ℕ → List ℕ
unread bytes = rest_within (length bytes) bytes
