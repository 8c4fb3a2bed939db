-- Every event leaves the tool counted.
use Rattle.std.proofs.Common.{◌≡◌, ◌⊎◌, ℕ, ◌+◌, ◌*◌, ◌≤◌, ◌<◌, Bool, true, false, List, [], ◌∷◌, length, Option, Some, None, refl, arith}
use Rattle.std.specs.Prelude.{slice_get, if◌then◌else◌}
use Rattle.flash_trait.specs.Flash.{Operation}
use Rattle.wire_packets.specs.declared.packet.Packet.{Packet}
use Rattle.wire_session.specs.declared.act.Act.{Act}
use Rattle.wire_session.specs.declared.act.Act.TheVariants.{Do, Resend, Ignore}
use Rattle.wire_session.specs.Asking.{is_awaited}
use Rattle.wire_session.specs.Answering.{act_on, is_do}
use Rattle.deploy_model.specs.Board.{Parts, Outcome, operation_asked}
use Rattle.deploy_model.specs.Deployment.{next_of}
use Rattle.deploy_model.specs.Tool.{Work, DeploysAndRuns, OnlyRuns, Goal, Tool, opens}
use Rattle.deploy_model.specs.World.{World, Event, Send, ToBoard, Stop, ToTool, Begin, on_act, to_board, cut_off, stops, to_tool, takes_reply, FitsWork, happens, IsPossible, run, ArePossible}
use Rattle.deploy_laws.proofs.Counted.{IsCounted, taken, left}

-- ---- the board leaves the tool
pub act_tool : (parts : Parts) (w : World) (p : Packet) (outcome : Outcome) (a : Act) → (on_act parts w p outcome a).tool ≡ w.tool
act_tool parts w p outcome Do = refl
act_tool parts w p outcome Resend = refl
act_tool parts w p outcome Ignore = refl

pub board_tool : (parts : Parts) (w : World) (outcome : Outcome) (o : Option Packet) → (to_board parts w outcome o).tool ≡ w.tool
board_tool parts w outcome None = refl
board_tool parts w outcome (Some p) = act_tool parts w p outcome (act_on w.board p)

cut_tool : (w : World) (left : List ℕ) (o : Option Operation) → (cut_off w left o).tool ≡ w.tool
cut_tool w left None = refl
cut_tool w left (Some op) = refl

stop_tool : (w : World) (left : List ℕ) (o : Option Packet) → (stops w left o).tool ≡ w.tool
stop_tool w left None = refl
stop_tool w left (Some p) = either (is_do (act_on w.board p))
  where
    either : (b : Bool) → (if b then cut_off w left (operation_asked p) else w).tool ≡ w.tool
    either true = cut_tool w left (operation_asked p)
    either false = refl

-- ---- the tool
pub opens_counted : (parts : Parts) (g : Goal) (work : Work) → FitsWork parts work → IsCounted (opens g work)
unfolding next_of
opens_counted parts g (DeploysAndRuns set) fits = (refl, omega arith, omega arith, fits.room, refl)
opens_counted parts g OnlyRuns fits = (omega arith, refl)

by_tool : (w : World) (o : Option Packet) → IsCounted w.tool → IsCounted (to_tool w o).tool
by_tool w None so = so
by_tool w (Some r) so = either (is_awaited w.tool.asking r) refl
  where
    either : (b : Bool) → is_awaited w.tool.asking r ≡ b → IsCounted (if b then takes_reply w r else w).tool
    either true is = (taken w.tool r so is).counted
    either false is = so

pub counted_by : (t u : Tool) → u ≡ t → IsCounted t → IsCounted u
counted_by t u same so = Rattle.std.proofs.Common.subst IsCounted (Rattle.std.proofs.Common.sym same) so

step : (parts : Parts) (w : World) (e : Event) → IsPossible parts w e → IsCounted w.tool → IsCounted (happens parts w e).tool
unfolding happens
step parts w Send possible so = by_power w.on
  where
    by_power : (b : Bool) → IsCounted (if b then record { content = w.content; on = w.on; board = w.board; text = w.text; tool = w.tool; requests = Rattle.deploy_model.specs.World.sent w.requests w.tool.asking.waiting; replies = w.replies; start = w.start } else w).tool
    by_power true = so
    by_power false = so
step parts w (ToBoard i outcome) possible so = by_power w.on
  where
    by_power : (b : Bool) → IsCounted (if b then to_board parts w outcome (slice_get w.requests i) else w).tool
    by_power true = counted_by w.tool (to_board parts w outcome (slice_get w.requests i)).tool (board_tool parts w outcome (slice_get w.requests i)) so
    by_power false = so
step parts w (Stop i content) possible so = by_power w.on
  where
    by_power : (b : Bool) → IsCounted (if b then stops w content (slice_get w.requests i) else w).tool
    by_power true = counted_by w.tool (stops w content (slice_get w.requests i)).tool (stop_tool w content (slice_get w.requests i)) so
    by_power false = so
step parts w (ToTool j) possible so = by_power w.on
  where
    by_power : (b : Bool) → IsCounted (if b then to_tool w (slice_get w.replies j) else w).tool
    by_power true = by_tool w (slice_get w.replies j) so
    by_power false = so
step parts w (Begin g) possible so = opens_counted parts g g.work possible

pub all_counted : (parts : Parts) (es : List Event) (w : World) → ArePossible parts w es → IsCounted w.tool → IsCounted (run parts es w).tool
all_counted parts [] w possible so = so
all_counted parts (e ∷ es) w possible so = all_counted parts es (happens parts w e) possible.1 (step parts w e possible.0 so)
