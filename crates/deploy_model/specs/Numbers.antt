-- Which requests the board does, and how many a session asks.
use Rattle.std.specs.Prelude.{ℕ, if◌then◌else◌, List, [], ◌∷◌, ◌++◌, slice_get, Option, Some, None}
use Rattle.flash_trait.specs.Flash.{Operation}
use Rattle.wire_packets.specs.declared.packet.Packet.{Packet}
use Rattle.wire_session.specs.Answering.{act_on, is_do}
use Rattle.deploy_model.specs.Board.{Parts, operation_asked}
use Rattle.deploy_model.specs.World.{World, Event, Send, ToBoard, Stop, ToTool, Begin, happens}

-- a session asks fewer requests than this
abbrev pub MOST_REQUESTS : ℕ
MOST_REQUESTS = 5000

-- so many turns suffice for every play
abbrev pub ENOUGH_TURNS : ℕ
ENOUGH_TURNS = 40000

-- the number of a request where the board does it
abbrev pub number_done : World → Option Packet → Option ℕ
number_done w None = None
number_done w (Some p) = if is_do (act_on w.board p) then Some p.seq else None

-- where the power can stop in it
abbrev pub if_operation : Option Operation → Option ℕ → Option ℕ
if_operation None number = None
if_operation (Some op) number = number

abbrev pub number_stopped : World → Option Packet → Option ℕ
number_stopped w None = None
number_stopped w (Some p) = if_operation (operation_asked p) (number_done w (Some p))

-- the number of the request that an event makes the board do, whole or until the power stops
abbrev pub number_begun : World → Event → Option ℕ
number_begun w Send = None
number_begun w (ToBoard i outcome) = if w.on then number_done w (slice_get w.requests i) else None
number_begun w (Stop i left) = if w.on then number_stopped w (slice_get w.requests i) else None
number_begun w (ToTool j) = None
number_begun w (Begin g) = None

abbrev pub with_number : List ℕ → Option ℕ → List ℕ
with_number numbers None = numbers
with_number numbers (Some n) = numbers ++ n ∷ []

-- a session that begins has done nothing
abbrev pub numbers_after : World → Event → List ℕ → List ℕ
numbers_after w Send numbers = with_number numbers (number_begun w Send)
numbers_after w (ToBoard i outcome) numbers = with_number numbers (number_begun w (ToBoard i outcome))
numbers_after w (Stop i left) numbers = with_number numbers (number_begun w (Stop i left))
numbers_after w (ToTool j) numbers = with_number numbers (number_begun w (ToTool j))
numbers_after w (Begin g) numbers = []

-- the numbers of the requests that the board did in the last session of these events, from a session with these on
abbrev pub numbers_of : Parts → List Event → World → List ℕ → List ℕ
numbers_of parts [] w numbers = numbers
numbers_of parts (e ∷ es) w numbers = numbers_of parts es (happens parts w e) (numbers_after w e numbers)
