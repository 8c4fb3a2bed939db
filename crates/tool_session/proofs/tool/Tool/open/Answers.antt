use Rattle.std.proofs.Common.{◌≡◌, ◌∙◌, ap, false, List, ℕ}
use Rattle.wire_session.specs.Asking.{Asking, nothing_asked}
use Rattle.deploy_model.specs.Deployment.{beginning}
use Rattle.deploy_model.specs.Tool as model
use Rattle.deploy_tool.specs.Steps.{next_view}
use Rattle.tool_session.specs.Goals.{goal_view, work_view}
use Rattle.tool_session.proofs.StepLaws.{opened}
use Rattle.tool_session.proofs.tool.Tool.open.Goals as goal

pub returns-in-DeploysAndRuns : goal.returns-in-DeploysAndRuns
returns-in-DeploysAndRuns c =
    let t : Asking → List ℕ → model.Tool = λ a l. record { asking = a; goal = goal_view c.args.goal; stage = model.Deploys c.next-step.new.self; told = false; got = l } in
    opened (goal_view c.args.goal) (t c.new.result c.new-4.result.items) c.on_step.new.self c.in-DeploysAndRuns.set.now c.new-2.result c.next-step.new.self (next_view c.next-step.result)
    (ap work_view c.in-DeploysAndRuns.is) (c.new-2.ensures ∙ ap (λ (l : List ℕ). beginning l model.no_plan) c.set_of.ensures)
    (ap (λ (a : Asking). t a c.new-4.result.items) c.new.ensures ∙ ap (λ (l : List ℕ). t nothing_asked l) c.new-4.ensures.items)
    c.next-step.ensures.step c.next-step.ensures.after c.on_step.ensures
