-- What the deployment's laws promise of a world.
use Rattle.std.specs.Prelude.{◌≡◌, ◌+◌, ◌-◌, ◌≤◌, ℕ, true, List, take, Some, slice_get}
use Rattle.flash_trait.specs.Flash.{Operation, IsStopped}
use Rattle.deploy_model.specs.Banks.{found, set_in}
use Rattle.deploy_model.specs.Deployment.{Plan, plan_for, banks, operations, after_all}
use Rattle.deploy_model.specs.Moments.{Safe}
use Rattle.deploy_model.specs.Board.{Parts}
use Rattle.deploy_model.specs.Tool.{Work, DeploysAndRuns, OnlyRuns}
use Rattle.deploy_model.specs.World.{World}

-- the plan of a session that began with this content
abbrev pub plan_at : Parts → List ℕ → Plan
plan_at parts start = plan_for (banks parts.format start)

-- what is found is what the session's start has, or the session's set at its bank
abbrev pub SafeWork : Parts → Work → List ℕ → List ℕ → Type 0
SafeWork parts (DeploysAndRuns set) start content = Safe parts.format start set (plan_at parts start).target content
SafeWork parts OnlyRuns start content = content ≡ start

-- the new set is found
abbrev pub IsFoundNew : Parts → Work → List ℕ → List ℕ → Type 0
IsFoundNew parts (DeploysAndRuns set) start content = found parts.format content ≡ set_in parts.format (plan_at parts start).target set
IsFoundNew parts OnlyRuns start content = ⊥

-- the content after the first i operations of the session's deployment
abbrev pub content_after : Parts → List ℕ → List ℕ → ℕ → List ℕ
content_after parts set start i = after_all (take i (operations (plan_at parts start) set)) start

-- the content after so many requests of a session, of which the first two of a deployment are Open and Banks
abbrev pub content_by : Parts → Work → List ℕ → ℕ → List ℕ
content_by parts (DeploysAndRuns set) start done = content_after parts set start (done - 2)
content_by parts OnlyRuns start done = start

-- the content is the one after the operations of the requests that the board did, each once and in order; the last of
-- them may have failed
pub data IsDoneBy (parts : Parts) (w : World) : Type 0 where
  AllDone : w.content ≡ content_by parts w.tool.goal.work w.start w.board.last → IsDoneBy parts w
  LastFailed : (set : List ℕ) (i : ℕ) (op : Operation) → w.tool.goal.work ≡ DeploysAndRuns set → w.board.last ≡ i + 3 → slice_get (operations (plan_at parts w.start) set) i ≡ Some op
      → IsStopped op (content_after parts set w.start i) w.content → IsDoneBy parts w

-- the content is that of the start, or the one after the first operations, of which the last may have failed
pub data Progressed (parts : Parts) (w : World) : Type 0 where
  Untouched : w.content ≡ w.start → Progressed parts w
  AfterSome : (set : List ℕ) (i : ℕ) → w.tool.goal.work ≡ DeploysAndRuns set → w.content ≡ content_after parts set w.start i → Progressed parts w
  AfterFailed : (set : List ℕ) (i : ℕ) (op : Operation) → w.tool.goal.work ≡ DeploysAndRuns set → slice_get (operations (plan_at parts w.start) set) i ≡ Some op
      → IsStopped op (content_after parts set w.start i) w.content → Progressed parts w

-- what holds of every world that events lead to
pub record IsSound (parts : Parts) (w : World) : Type 0 where
  -- at every moment, also of a content that a stop inside an operation left
  pub safe : SafeWork parts w.tool.goal.work w.start w.content
  pub progressed : Progressed parts w
  -- while the power is on: the board's last number is the tool's, or one less
  pub no_more : w.on ≡ true → w.board.last ≤ w.tool.asking.asked
  pub one_less : w.on ≡ true → w.tool.asking.asked ≤ w.board.last + 1
  pub done : w.on ≡ true → IsDoneBy parts w
  -- a deployment is told as done only where its set is found
  pub told : w.on ≡ true → w.tool.told ≡ true → IsFoundNew parts w.tool.goal.work w.start w.content
