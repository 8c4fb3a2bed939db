-- The events that a script of the network and a stop stand for. The lists of the network are those of the world, so the
-- script's turns alone are kept beside it.
use Rattle.std.specs.Prelude.{◌≡◌, ◌≤◌, ◌<◌, ℕ, zero, suc, ◌+◌, ◌-◌, ◌/◌, ◌^◌, ◌==◌, ◌||◌, Bool, true, false, nat_le, if◌then◌else◌, List, [], ◌∷◌, ◌++◌, length, slice_get, Option, Some, None, is_none}
use Rattle.flash_trait.specs.Flash.{Operation, cut}
use Rattle.flash_trait.specs.FlashCalls.{counted}
use Rattle.flash_trait.specs.declared.flash.Stop as armed
use Rattle.wire_packets.specs.declared.packet.Packet.{Packet}
use Rattle.wire_session.specs.Answering.{act_on, is_do}
use Rattle.wire_script.specs.Script.{turn_of, script_after}
use Rattle.wire_script.specs.declared.net.Item.{Item}
use Rattle.wire_script.specs.declared.delivery.Planned.{Planned}
use Rattle.wire_script.specs.declared.delivery.Planned.TheVariants.{Request, Reply, NewestRequest, NewestReply}
use Rattle.wire_packets.specs.declared.command.TheConstants.{DONE}
use Rattle.wire_packets.specs.declared.payload.TheConstants.{MAX_TEXT}
use Rattle.wire_session.specs.Replies.{numbers_fit}
use Rattle.deploy_model.specs.Board.{Parts, Ended, Works, MOST_CELLS, end_bytes, operation_asked}
use Rattle.deploy_model.specs.Deployment.{PIECE}
use Rattle.deploy_model.specs.Tool.{Goal, OnlyRuns, IsOver, HasRun}
use Rattle.deploy_model.specs.World.{World, Event, Send, ToBoard, Stop, ToTool, Begin, happens}

pub record Playing : Type 0 where
  pub world : World
  -- what happened
  pub events : List Event
  pub stop : Option armed.Stop
  -- the power stopped in this turn
  pub stopped : Bool

abbrev pub goes_on : Parts → Playing → Event → Playing
goes_on parts p e = record { world = happens parts p.world e; events = p.events ++ e ∷ []; stop = p.stop; stopped = p.stopped }

-- the operation that the i-th request would do now
abbrev pub due_operation : World → Packet → Option Operation
due_operation w p = if is_do (act_on w.board p) then operation_asked p else None

abbrev pub only_runs : Goal → Goal
only_runs g = record { work = OnlyRuns; steps = g.steps; cells = g.cells }

-- the stop comes at this operation: the power comes back, and a session begins that only runs
abbrev pub stops_here : Parts → Playing → ℕ → Operation → armed.Stop → Playing
stops_here parts p i op stop =
    record (goes_on parts (goes_on parts p (Stop i (cut op stop.mask p.world.content))) (Begin (only_runs p.world.tool.goal))) { stop = None; stopped = true }

abbrev pub by_stop : Parts → Playing → ℕ → Option Operation → Option armed.Stop → Playing
by_stop parts p i None stop = goes_on parts p (ToBoard i Works)
by_stop parts p i (Some op) None = goes_on parts p (ToBoard i Works)
by_stop parts p i (Some op) (Some stop) =
    if nat_le stop.operation 1 then stops_here parts p i op stop else record (goes_on parts p (ToBoard i Works)) { stop = counted (Some stop) }

abbrev pub delivers : Parts → Playing → ℕ → Option Packet → Playing
delivers parts p i None = p
delivers parts p i (Some packet) = by_stop parts p i (due_operation p.world packet) p.stop

abbrev pub answers_reach : Parts → Playing → ℕ → Option Packet → Playing
answers_reach parts p j None = p
answers_reach parts p j (Some reply) = goes_on parts p (ToTool j)

abbrev pub does_planned : Parts → Playing → Planned → Playing
does_planned parts p (Request i) = delivers parts p i (slice_get p.world.requests i)
does_planned parts p (Reply j) = answers_reach parts p j (slice_get p.world.replies j)
does_planned parts p NewestRequest = delivers parts p (length p.world.requests - 1) (slice_get p.world.requests (length p.world.requests - 1))
does_planned parts p NewestReply = answers_reach parts p (length p.world.replies - 1) (slice_get p.world.replies (length p.world.replies - 1))

-- a turn; after a stop its rest is dropped
abbrev pub does_turn : Parts → Playing → List Planned → Playing
does_turn parts p [] = p
does_turn parts p (planned ∷ rest) = if p.stopped then p else does_turn parts (does_planned parts p planned) rest

-- the turns that were taken for the request that is open after a turn
abbrev pub taken_after : ℕ → ℕ → Playing → ℕ
taken_after taken asked p = if p.stopped then 0 else (if p.world.tool.asking.asked == asked then taken + 1 else 0)

-- at most so many turns more, of which so many were taken for the open request: until nothing is asked any more, or eight
-- turns of one request brought no reply
abbrev pub play : Parts → ℕ → ℕ → List Item → Playing → Playing
play parts zero taken script p = p
play parts (suc n) taken script p =
    if is_none p.world.tool.asking.waiting || (taken == 8) then p
    else (let q = does_turn parts (record (goes_on parts p Send) { stopped = false }) (turn_of script) in
    play parts n (taken_after taken p.world.tool.asking.asked q) (script_after script) q)

-- the play of a session that begins
abbrev pub playing : World → Option armed.Stop → Playing
playing w stop = record { world = w; events = []; stop = stop; stopped = false }

-- ---- an honest network: each turn delivers what was sent
abbrev pub honest_turn : Parts → World → World
honest_turn parts w = happens parts (happens parts (happens parts w Send) (ToBoard (length w.requests) Works)) (ToTool (length w.replies))

abbrev pub honest : Parts → ℕ → World → World
honest parts zero w = w
honest parts (suc n) w = honest parts n (honest_turn parts w)

-- how a content ends by the run that a session asks for
abbrev pub ended : Parts → Goal → List ℕ → Ended
ended parts g content = parts.runs content g.steps g.cells

-- a run that a request can ask for, and an end that a reply can tell
pub record CanRun (parts : Parts) (g : Goal) (content : List ℕ) : Type 0 where
  pub steps : g.steps < 2 ^ 64
  pub some_cells : 1 ≤ g.cells
  pub few_cells : g.cells ≤ MOST_CELLS
  pub first : (ended parts g content).a < 2 ^ 32
  pub second : (ended parts g content).b < 2 ^ 32
  pub third : (ended parts g content).c < 2 ^ 32
  pub fit : numbers_fit (ended parts g content).kind (ended parts g content).a (ended parts g content).b (ended parts g content).c ≡ true
  pub text : length (ended parts g content).text ≤ MAX_TEXT

-- how many requests fetch a text
abbrev pub fetch_count : List ℕ → ℕ
fetch_count text = (length text + (PIECE - 1)) / PIECE

-- the session is over, and has the end of the content's run and its whole text
pub record HasTheRun (parts : Parts) (g : Goal) (deployed : List ℕ) (w : World) : Type 0 where
  pub content : w.content ≡ deployed
  pub over : w.tool.stage ≡ IsOver HasRun (DONE ∷ end_bytes (ended parts g deployed))
  pub text : w.tool.got ≡ (ended parts g deployed).text
  pub rests : w.tool.asking.waiting ≡ None
