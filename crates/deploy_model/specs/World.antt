-- The world of a deployment: what may happen, in any order and number.
use Rattle.std.specs.Prelude.{◌≡◌, ℕ, Bool, true, false, if◌then◌else◌, List, [], ◌∷◌, ◌++◌, slice_get, Option, Some, None}
use Rattle.flash_trait.specs.Flash.{Operation, IsStopped}
use Rattle.wire_packets.specs.declared.packet.Packet.{Packet}
use Rattle.wire_session.specs.declared.act.Act.{Act}
use Rattle.wire_session.specs.declared.act.Act.TheVariants.{Do, Resend, Ignore}
use Rattle.wire_session.specs.Asking.{is_awaited}
use Rattle.wire_session.specs.Answering.{Answering, nothing_done, act_on, after_take, after_keep, is_do}
use Rattle.deploy_model.specs.Board.{Parts, Outcome, Works, Fails, LacksMemory, does, operation_asked, reply_to}
use Rattle.deploy_model.specs.Moments.{IsDeployable}
use Rattle.deploy_model.specs.Tool.{Work, DeploysAndRuns, OnlyRuns, Goal, Tool, takes, opens, blank}

pub record World : Type 0 where
  pub content : List ℕ
  pub on : Bool
  pub board : Answering
  -- the text of the last run
  pub text : List ℕ
  pub tool : Tool
  pub requests : List Packet
  pub replies : List Packet
  -- the content at the session's start
  pub start : List ℕ

pub data Event : Type 0 where
  -- the open request is sent
  Send : Event
  -- the board gets the i-th request
  ToBoard : (i : ℕ) (outcome : Outcome) → Event
  -- the power stops while the i-th request is done
  Stop : (i : ℕ) (content : List ℕ) → Event
  -- the tool gets the j-th reply
  ToTool : (j : ℕ) → Event
  -- the power is on, and a session begins
  Begin : (goal : Goal) → Event

abbrev pub sent : List Packet → Option Packet → List Packet
sent requests None = requests
sent requests (Some p) = requests ++ p ∷ []

abbrev pub on_act : Parts → World → Packet → Outcome → Act → World
on_act parts w p outcome Do =
    record {
      content = (does parts w.content w.text p outcome).content;
      on = w.on;
      board = after_keep (after_take w.board p) (reply_to p (does parts w.content w.text p outcome).payload);
      text = (does parts w.content w.text p outcome).text;
      tool = w.tool;
      requests = w.requests;
      replies = w.replies ++ reply_to p (does parts w.content w.text p outcome).payload ∷ [];
      start = w.start;
    }
on_act parts w p outcome Resend =
    record { content = w.content; on = w.on; board = w.board; text = w.text; tool = w.tool; requests = w.requests; replies = sent w.replies w.board.kept; start = w.start }
on_act parts w p outcome Ignore = w

abbrev pub to_board : Parts → World → Outcome → Option Packet → World
to_board parts w outcome None = w
to_board parts w outcome (Some p) = on_act parts w p outcome (act_on w.board p)

abbrev pub cut_off : World → List ℕ → Option Operation → World
cut_off w left None = w
cut_off w left (Some op) =
    record { content = left; on = false; board = nothing_done; text = []; tool = w.tool; requests = w.requests; replies = w.replies; start = w.start }

abbrev pub stops : World → List ℕ → Option Packet → World
stops w left None = w
stops w left (Some p) = if is_do (act_on w.board p) then cut_off w left (operation_asked p) else w

abbrev pub takes_reply : World → Packet → World
takes_reply w r =
    record { content = w.content; on = w.on; board = w.board; text = w.text; tool = takes w.tool r; requests = w.requests; replies = w.replies; start = w.start }

abbrev pub to_tool : World → Option Packet → World
to_tool w None = w
to_tool w (Some r) = if is_awaited w.tool.asking r then takes_reply w r else w

abbrev pub begins : World → Goal → World
begins w g =
    record { content = w.content; on = true; board = nothing_done; text = []; tool = opens g g.work; requests = []; replies = []; start = w.content }

-- while the power is off, a new session alone can come
unfoldable pub happens : Parts → World → Event → World
happens parts w Send =
    if w.on
    then record { content = w.content; on = w.on; board = w.board; text = w.text; tool = w.tool; requests = sent w.requests w.tool.asking.waiting; replies = w.replies; start = w.start }
    else w
happens parts w (ToBoard i outcome) = if w.on then to_board parts w outcome (slice_get w.requests i) else w
happens parts w (Stop i left) = if w.on then stops w left (slice_get w.requests i) else w
happens parts w (ToTool j) = if w.on then to_tool w (slice_get w.replies j) else w
happens parts w (Begin g) = begins w g

-- what the flash may leave of the operation that a request asks for
abbrev pub MayLeave : World → ℕ → List ℕ → Type 0
MayLeave w i left = (p : Packet) → slice_get w.requests i ≡ Some p → (op : Operation) → operation_asked p ≡ Some op → IsStopped op w.content left

abbrev pub FitsOutcome : World → ℕ → Outcome → Type 0
FitsOutcome w i Works = Unit {0}
FitsOutcome w i (Fails left) = MayLeave w i left
FitsOutcome w i LacksMemory = Unit {0}

abbrev pub FitsWork : Parts → Work → Type 0
FitsWork parts (DeploysAndRuns set) = IsDeployable parts.format set
FitsWork parts OnlyRuns = Unit {0}

-- the event can happen
abbrev pub IsPossible : Parts → World → Event → Type 0
IsPossible parts w Send = Unit {0}
IsPossible parts w (ToBoard i outcome) = FitsOutcome w i outcome
IsPossible parts w (Stop i left) = MayLeave w i left
IsPossible parts w (ToTool j) = Unit {0}
IsPossible parts w (Begin g) = FitsWork parts g.work

abbrev pub run : Parts → List Event → World → World
run parts [] w = w
run parts (e ∷ es) w = run parts es (happens parts w e)

abbrev pub ArePossible : Parts → World → List Event → Type 0
ArePossible parts w [] = Unit {0}
ArePossible parts w (e ∷ es) = IsPossible parts w e × ArePossible parts (happens parts w e) es

-- a flash without power, before any session
abbrev pub asleep : List ℕ → World
asleep content =
    record {
      content = content;
      on = false;
      board = nothing_done;
      text = [];
      tool = blank (record { work = OnlyRuns; steps = 0; cells = 0 });
      requests = [];
      replies = [];
      start = content;
    }
