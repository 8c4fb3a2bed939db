-- What one end says: its requests one after the other, each one to eight times, each after a match of the one before.
use Rattle.std.specs.Prelude.{◌≡◌, ℕ, zero, suc, ◌+◌, ◌-◌, ◌<◌, ◌≤◌, true, if◌then◌else◌, nat_lt, List, [], ◌∷◌, ◌++◌, length, map, take, slice_get, Option, Some, None}
use Rattle.mf_types.specs.LinkCalls.{LinkState, Sent, sent_bytes}
use Rattle.wire_packets.specs.declared.packet.Packet.{Packet}
use Rattle.wire_packets.specs.Placed.{Placed, placed}
use Rattle.wire_packets.specs.Spelling.{spelling}
use Rattle.wire_session.specs.Asking.{break_after}
use Rattle.wire_session.specs.Replies.{matches}
use Rattle.packet_inbox.specs.Arrived.{received}

-- the send in which the k-th byte sent lies, counted from 0
abbrev pub send_at : List Sent → ℕ → Option Sent
send_at [] k = None
send_at (sent ∷ sends) k = if nat_lt k (length sent.bytes) then Some sent else send_at sends (k - length sent.bytes)

-- a request, and how often it was said
pub record Said : Type 0 where
  pub request : Packet
  pub times : ℕ

abbrev pub so_often : ℕ → List ℕ → List ℕ
so_often zero bytes = []
so_often (suc n) bytes = bytes ++ so_often n bytes

-- the bytes of what was said
abbrev pub said_bytes : List Said → List ℕ
said_bytes [] = []
said_bytes (s ∷ ss) = so_often s.times (spelling s.request) ++ said_bytes ss

abbrev pub requests_of : List Said → List Packet
requests_of said = map (λ (s : Said). s.request) said

-- the place of the last Break among requests, after those with an earlier one
abbrev pub break_of : Option ℕ → List Packet → Option ℕ
break_of last [] = last
break_of last (p ∷ ps) = break_of (break_after last p.command p.payload.items) ps

-- a packet was heard that matches the last of these requests, and ends at or before this place
pub record IsAnswered (asked : List Packet) (request : Packet) (before : ℕ) (heard : List Placed) : Type 0 where
  pub at : ℕ
  pub found : Placed
  pub there : slice_get heard at ≡ Some found
  pub match : matches (break_of None asked) request found.packet ≡ true
  pub early : found.end ≤ before

-- what is said behind this begins in a send before which the last request of it was answered
pub record IsFollowed (before : List Said) (request : Packet) (sends : List Sent) (heard : List Placed) : Type 0 where
  pub sent : Sent
  pub there : send_at sends (length (said_bytes before)) ≡ Some sent
  pub answered : IsAnswered (requests_of before) request sent.taken heard

-- these sends say this, of which so many bytes are missing at the end, while these packets are heard
pub record Speaks (requests : List Packet) (said : List Said) (missing : ℕ) (sends : List Sent) (heard : List Placed) : Type 0 where
  pub prefix : requests_of said ≡ take (length said) requests
  pub few : length said ≤ length requests
  pub times : (i : ℕ) (s : Said) → slice_get said i ≡ Some s → (1 ≤ s.times) × (s.times ≤ 8)
  pub bytes : sent_bytes sends ≡ take (length (said_bytes said) - missing) (said_bytes said)
  pub after_match : (i : ℕ) (s : Said) → slice_get said i ≡ Some s → i + 1 < length said → IsFollowed (take (i + 1) said) s.request sends heard

-- the last request that was said, if any, was answered by a packet that ends at or before this place
abbrev pub MayGoOn : List Said → ℕ → List Placed → Type 0
MayGoOn said before heard = (i : ℕ) (s : Said) → slice_get said i ≡ Some s → i + 1 ≡ length said → IsAnswered (requests_of said) s.request before heard

-- the same from one state of a link to another, over a link that tells
pub record SpeaksOver (requests : List Packet) (said : List Said) (missing : ℕ) (first last : LinkState) : Type 0 where
  pub sends : List Sent
  pub added : last.sends ≡ first.sends ++ sends
  pub speaks : Speaks requests said missing sends (placed first.taken (received first last))
