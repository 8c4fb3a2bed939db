-- The fields of a tool as the model of the deployment has them.
use Rattle.std.specs.Prelude.{◌≡◌, ℕ, Bool, true, false, if◌then◌else◌, List, Option, Some, None}
use Rattle.wire_packets.specs.declared.packet.Packet.{Packet}
use Rattle.wire_session.specs.Asking.{Asking, is_awaited}
use Rattle.deploy_model.specs.Deployment.{Deploying}
use Rattle.deploy_model.specs.Tool as model
use Rattle.tool_session.specs.declared.goal.Stage.{Stage}
use Rattle.tool_session.specs.declared.goal.Stage.TheVariants.{Deploys, Opens, Runs, Fetches, Closes, IsOver}
use Rattle.tool_session.specs.Goals.{finish_view}

abbrev pub stage_view : Stage → Deploying → List ℕ → model.Stage
stage_view Deploys d end = model.Deploys d
stage_view Opens d end = model.Opens
stage_view Runs d end = model.Runs
stage_view Fetches d end = model.Fetches end
stage_view Closes d end = model.Closes end
stage_view (IsOver finish) d end = model.IsOver (finish_view finish) end

-- the last request is the one that waits, where one does
pub record KeepsLast (asking : Asking) (last : Packet) (waits : Bool) : Type 0 where
  pub count : last.seq ≡ asking.asked
  pub waiting : asking.waiting ≡ (if waits then Some last else None)

-- a reply came
abbrev pub after_take : model.Tool → Packet → model.Tool
after_take t reply = if is_awaited t.asking reply then model.takes t reply else t
