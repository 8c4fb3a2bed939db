-- The answering end of a session.
use Rattle.std.specs.Prelude.{◌≡◌, ℕ, ◌+◌, ◌<◌, ◌==◌, ◌&&◌, Bool, true, false, nat_lt, if◌then◌else◌, Option, Some, None, is_none, List, [], ◌∷◌}
use Rattle.wire_packets.specs.declared.packet.Packet.{Packet}
use Rattle.wire_packets.specs.declared.packet.TheConstants.{LAST_SEQ, REQUEST}
use Rattle.wire_session.specs.declared.act.Act.{Act}
use Rattle.wire_session.specs.declared.act.Act.TheVariants.{Do, Resend, Ignore}

pub record Answering : Type 0 where
  -- the number of the last request that was done, and 0 before the first
  pub last : ℕ
  -- the reply to it
  pub kept : Option Packet
  -- a request was taken to be done, and its reply isn't kept yet
  pub doing : Bool

-- a session in which nothing was done
abbrev pub nothing_done : Answering
nothing_done = record { last = 0; kept = None; doing = false }

-- the next request is done, and the last one gets its reply again; every other packet and each reply is ignored
abbrev pub act_on : Answering → Packet → Act
act_on a p =
    if p.flags == REQUEST
    then (if (p.seq == a.last + 1) && nat_lt a.last LAST_SEQ then Do
    else (if (p.seq == a.last) && nat_lt 0 a.last then Resend else Ignore))
    else Ignore

abbrev pub is_do : Act → Bool
is_do Do = true
is_do Resend = false
is_do Ignore = false

abbrev pub after_take : Answering → Packet → Answering
after_take a p = record { last = a.last; kept = a.kept; doing = is_do (act_on a p) }

-- the request that was done is the last one now, with its reply
abbrev pub after_keep : Answering → Packet → Answering
after_keep a reply = record { last = a.last + 1; kept = Some reply; doing = false }

-- what holds of every answering end
pub record IsAnswering (a : Answering) : Type 0 where
  pub room : a.doing ≡ true → a.last < LAST_SEQ
  pub none : is_none a.kept ≡ (a.last == 0)

-- the numbers of the requests that are done when these packets come, each request done getting some reply
abbrev pub numbers_done : (Packet → Packet) → Answering → List Packet → List ℕ
numbers_done reply a [] = []
numbers_done reply a (p ∷ ps) =
    if is_do (act_on a p) then p.seq ∷ numbers_done reply (after_keep (after_take a p) (reply p)) ps
    else numbers_done reply (after_take a p) ps
