-- The asking end of a session.
use Rattle.std.specs.Prelude.{ℕ, zero, suc, ◌+◌, ◌==◌, ◌&&◌, Bool, false, nat_lt, if◌then◌else◌, Option, Some, None, is_some, List, length}
use Rattle.wire_packets.specs.declared.packet.Packet.{Packet}
use Rattle.wire_packets.specs.declared.packet.TheConstants.{REQUEST}
use Rattle.wire_packets.specs.declared.command.TheConstants.{BREAK}
use Rattle.wire_packets.specs.declared.payload.TheConstants.{BREAK_PLACE, BREAK_SIZE}
use Rattle.little_endian.specs.Numbers.{number}
use Rattle.wire_packets.specs.Made.{packet_with}
use Rattle.wire_session.specs.Replies.{matches}
use Rattle.wire_session.specs.declared.asker.TheConstants.{MOST_TURNS}

pub record Asking : Type 0 where
  -- how many requests were asked, which is the number of the last one
  pub asked : ℕ
  -- the request that waits for its reply
  pub waiting : Option Packet
  -- the turns taken for the last request
  pub turns : ℕ
  -- the place of the last Break that was asked, and none before the first
  pub last_break : Option ℕ

-- a session in which nothing was asked
abbrev pub nothing_asked : Asking
nothing_asked = record { asked = 0; waiting = None; turns = 0; last_break = None }

-- the next request
abbrev pub next_request : Asking → ℕ → List ℕ → Packet
next_request a command payload = packet_with command (a.asked + 1) 0 REQUEST payload

-- the place of the last Break, once this was asked too
abbrev pub break_after : Option ℕ → ℕ → List ℕ → Option ℕ
break_after last command payload =
    if (command == BREAK) && (length payload == BREAK_SIZE) then Some (number 4 BREAK_PLACE payload) else last

abbrev pub after_ask : Asking → ℕ → List ℕ → Asking
after_ask a command payload =
    record {
      asked = a.asked + 1;
      waiting = Some (next_request a command payload);
      turns = 0;
      last_break = break_after a.last_break command payload;
    }

-- the packet is the reply to the open request
abbrev pub waiting_matches : Option ℕ → Option Packet → Packet → Bool
waiting_matches last_break None p = false
waiting_matches last_break (Some request) p = matches last_break request p

abbrev pub is_awaited : Asking → Packet → Bool
is_awaited a p = waiting_matches a.last_break a.waiting p

-- the request is open no more once its reply came
abbrev pub after_reply : Asking → Packet → Asking
after_reply a p = record { asked = a.asked; waiting = (if is_awaited a p then None else a.waiting); turns = a.turns; last_break = a.last_break }

-- a turn is left: a request is open, and not all of its turns were taken
abbrev pub has_turn : Asking → Bool
has_turn a = is_some a.waiting && nat_lt a.turns MOST_TURNS

abbrev pub after_turn : Asking → Asking
after_turn a = record { asked = a.asked; waiting = a.waiting; turns = (if has_turn a then a.turns + 1 else a.turns); last_break = a.last_break }

-- after so many turns
abbrev pub after_turns : ℕ → Asking → Asking
after_turns zero a = a
after_turns (suc n) a = after_turn (after_turns n a)
