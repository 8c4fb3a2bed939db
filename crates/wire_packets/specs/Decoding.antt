-- What stands at the front of some bytes.
use Rattle.std.specs.Prelude.{◌≡◌, ℕ, ◌+◌, ◌<◌, ◌≤◌, ◌==◌, nat_lt, nat_le, if◌then◌else◌, Bool, ◌&&◌, true, ◌⊎◌, List, length, sum, take, drop}
use Rattle.std.specs.List.{list_all, zip}
use Rattle.little_endian.specs.Numbers.{number}
use Rattle.wire_packets.specs.declared.packet.Packet.{Packet}
use Rattle.wire_packets.specs.declared.header.TheConstants.{HEADER_CHECK, DATA_CHECK, COMMAND, SEQ, REPLY_SEQ, FLAGS, PAYLOAD_SIZE, HEADER, FIELDS_SIZE}
use Rattle.wire_packets.specs.declared.packet.TheConstants.{MAX_PAYLOAD}
use Rattle.wire_packets.specs.declared.decoding.Decoded.{Decoded}
use Rattle.wire_packets.specs.declared.decoding.Decoded.TheVariants.{Whole, Short, Damaged}
use Rattle.wire_packets.specs.Spelling.{signature}

-- the bytes agree with the signature as far as they go
unfoldable pub agrees : List ℕ → Bool
agrees bytes = list_all (λ pair. pair.0 == pair.1) (zip signature bytes)

-- the size of the payload that a header tells
abbrev pub size : List ℕ → ℕ
size bytes = number 4 PAYLOAD_SIZE bytes

-- the sum of a header's bytes without those of its check
abbrev pub header_sum : List ℕ → ℕ
header_sum bytes = sum (take HEADER_CHECK bytes) + sum (take FIELDS_SIZE (drop DATA_CHECK bytes))

-- 32 bytes or more begin with a sound header
unfoldable pub is_sound : List ℕ → Bool
is_sound bytes =
    agrees bytes && (number 4 HEADER_CHECK bytes == header_sum bytes)
    && nat_lt (number 4 FLAGS bytes) 2
    && nat_le (size bytes) MAX_PAYLOAD

-- the payload that a header tells, as far as it is there
abbrev pub payload : List ℕ → List ℕ
payload bytes = take (size bytes) (drop HEADER bytes)

-- the packet that a header and its payload tell
abbrev pub packet : List ℕ → Packet
packet bytes =
    record {
      command = number 4 COMMAND bytes;
      seq = number 2 SEQ bytes;
      reply_seq = number 2 REPLY_SEQ bytes;
      flags = number 4 FLAGS bytes;
      payload = record { items = payload bytes };
    }

-- what stands at the front of the bytes
unfoldable pub decoded : List ℕ → Decoded
decoded bytes =
    if nat_lt (length bytes) HEADER then (if agrees bytes then Short else Damaged)
    else (if is_sound bytes
    then (if nat_lt (length bytes) (HEADER + size bytes) then Short
    else (if sum (payload bytes) == number 4 DATA_CHECK bytes then Whole (packet bytes) (HEADER + size bytes) else Damaged))
    else Damaged)

-- 32 bytes or more begin with a sound header
pub record BeginsSound (bytes : List ℕ) : Type 0 where
  pub long : HEADER ≤ length bytes
  pub agree : agrees bytes ≡ true
  pub check : number 4 HEADER_CHECK bytes ≡ header_sum bytes
  pub flags : number 4 FLAGS bytes < 2
  pub size : size bytes ≤ MAX_PAYLOAD

-- more bytes are needed: there are fewer than a header has and they may begin one, or a sound header stands
-- there and the payload isn't complete
abbrev pub IsShort : List ℕ → Type 0
IsShort bytes =
    ((length bytes < HEADER) × (agrees bytes ≡ true)) ⊎ (BeginsSound bytes × (length bytes < HEADER + size bytes))
