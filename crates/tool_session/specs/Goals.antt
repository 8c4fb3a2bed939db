-- Goals and endings as the model of the deployment has them.
use Rattle.std.specs.Prelude.{◌≤◌, ℕ, List, [], length, Option, Some, None}
use Rattle.deploy_model.specs.Banks.{ROOM}
use Rattle.deploy_model.specs.Tool as model
use Rattle.tool_session.specs.declared.goal.Work.{Work}
use Rattle.tool_session.specs.declared.goal.Work.TheVariants.{DeploysAndRuns, OnlyRuns}
use Rattle.tool_session.specs.declared.goal.Goal.{Goal}
use Rattle.tool_session.specs.declared.goal.Finish.{Finish}
use Rattle.tool_session.specs.declared.goal.Finish.TheVariants.{HasRun, FlashFailed, NumbersSpent, NoMemory}
use Rattle.tool_session.specs.declared.goal.Ending.{Ending}
use Rattle.tool_session.specs.declared.goal.Ending.TheVariants.{Over, Waits}

abbrev pub work_view : Work → model.Work
work_view (DeploysAndRuns set) = model.DeploysAndRuns set.now
work_view OnlyRuns = model.OnlyRuns

abbrev pub goal_view : Goal → model.Goal
goal_view g = record { work = work_view g.work; steps = g.steps; cells = g.cells }

-- the set that is deployed, and nothing where none is
abbrev pub set_of : model.Work → List ℕ
set_of (model.DeploysAndRuns set) = set
set_of model.OnlyRuns = []

-- the set fits into a bank
abbrev pub FitsABank : model.Work → Type 0
FitsABank work = length (set_of work) ≤ ROOM

abbrev pub finish_view : Finish → model.Finish
finish_view HasRun = model.HasRun
finish_view FlashFailed = model.FlashFailed
finish_view NumbersSpent = model.NumbersSpent
finish_view NoMemory = model.NoMemory

-- how a session at a stage stands, where it is over
pub record Told : Type 0 where
  pub finish : model.Finish
  pub end : List ℕ

abbrev pub told_at : model.Stage → Option Told
told_at (model.Deploys d) = None
told_at model.Opens = None
told_at model.Runs = None
told_at (model.Fetches end) = None
told_at (model.Closes end) = None
told_at (model.IsOver finish end) = Some (record { finish = finish; end = end })

abbrev pub ending_view : Ending → Option Told
ending_view (Over finish end) = Some (record { finish = finish_view finish; end = end.items })
ending_view Waits = None
