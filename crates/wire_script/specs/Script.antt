-- The scripted network.
use Rattle.std.specs.Prelude.{ℕ, ◌-◌, ◌==◌, nat_le, if◌then◌else◌, List, [], ◌∷◌, ◌++◌, length, map, slice_get, Option, Some, None, option_map}
use Rattle.wire_packets.specs.declared.packet.Packet.{Packet}
use Rattle.wire_script.specs.declared.net.Item.{Item}
use Rattle.wire_script.specs.declared.net.Item.TheVariants.{Newest, Turn}
use Rattle.wire_script.specs.declared.delivery.Delivery.{Delivery}
use Rattle.wire_script.specs.declared.delivery.Delivery.TheVariants.{ToBoard, ToTool, TurnOver}
use Rattle.wire_script.specs.declared.delivery.Planned.{Planned}
use Rattle.wire_script.specs.declared.delivery.Planned.TheVariants.{Request, Reply, NewestRequest, NewestReply}

pub record Network : Type 0 where
  -- the turns to come; after them each delivers the newest
  pub script : List Item
  -- what was sent in this session, numbered from 0
  pub requests : List Packet
  pub replies : List Packet
  -- what is left of the turn
  pub left : List Planned

-- a network before any session
abbrev pub new_network : List Item → Network
new_network items = record { script = items; requests = []; replies = []; left = [] }

abbrev pub newest : List Planned
newest = NewestRequest ∷ NewestReply ∷ []

-- what the next turn delivers
abbrev pub turn_of : List Item → List Planned
turn_of [] = newest
turn_of (Newest n ∷ items) = newest
turn_of (Turn requests replies ∷ items) = map Request requests ++ map Reply replies

-- the script without its next turn
abbrev pub script_after : List Item → List Item
script_after [] = []
script_after (Newest n ∷ items) = if nat_le n 1 then items else Newest (n - 1) ∷ items
script_after (Turn requests replies ∷ items) = items

-- so many turns that deliver the newest, and then these items
abbrev pub with_again : ℕ → List Item → List Item
with_again again items = if again == 0 then items else Newest again ∷ items

-- a request is sent, which begins a turn
abbrev pub after_send : Network → Packet → Network
after_send n p = record { script = script_after n.script; requests = n.requests ++ p ∷ []; replies = n.replies; left = turn_of n.script }

abbrev pub after_reply : Network → Packet → Network
after_reply n p = record { script = n.script; requests = n.requests; replies = n.replies ++ p ∷ []; left = n.left }

-- the rest of the turn is dropped, and a new session begins
abbrev pub after_clear : Network → Network
after_clear n = record { script = n.script; requests = []; replies = []; left = [] }

-- the packet that is delivered, where it is there
abbrev pub delivery : List Packet → List Packet → Planned → Option Delivery
delivery requests replies (Request n) = option_map ToBoard (slice_get requests n)
delivery requests replies (Reply n) = option_map ToTool (slice_get replies n)
delivery requests replies NewestRequest = option_map ToBoard (slice_get requests (length requests - 1))
delivery requests replies NewestReply = option_map ToTool (slice_get replies (length replies - 1))

-- the next delivery, and what is left after it; what isn't there yet is skipped
abbrev pub or_later : Option Delivery → List Planned → Delivery × List Planned → Delivery × List Planned
or_later None rest later = later
or_later (Some d) rest later = (d, rest)

abbrev pub next_delivery : List Packet → List Packet → List Planned → Delivery × List Planned
next_delivery requests replies [] = (TurnOver, [])
next_delivery requests replies (planned ∷ rest) =
    or_later (delivery requests replies planned) rest (next_delivery requests replies rest)

abbrev pub after_next : Network → Network
after_next n = record { script = n.script; requests = n.requests; replies = n.replies; left = (next_delivery n.requests n.replies n.left).1 }
