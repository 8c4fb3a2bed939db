use Rattle.std.proofs.Common.{◌≡◌, ◌∙◌, ap, subst}
use Rattle.deploy_model.specs.Tool as model
use Rattle.deploy_tool.specs.Steps.{next_view}
use Rattle.tool_session.specs.Goals.{goal_view}
use Rattle.tool_session.specs.Tools.{stage_view}
use Rattle.tool_session.specs.declared.goal.Stage.{Stage}
use Rattle.tool_session.proofs.StepLaws.{stage_stepped}
use Rattle.tool_session.proofs.tool.Tool.on_stage.Goals as goal

pub returns-in-Deploys : goal.returns-in-Deploys
returns-in-Deploys c =
    let i = c.self.inside in
    let payload = c.args.reply.now.payload.items in
    let v : model.Tool = record { asking = i.asker; goal = goal_view i.goal; stage = stage_view i.stage i.deploy i.end.items; told = i.told; got = i.got.items } in
    subst (λ (t : model.Tool). c.on_step.new.self ≡ model.on_stage t payload t.stage) c.self.view_is
    (stage_stepped v _ c.on_step.new.self payload i.deploy (next_view c.next-step.result)
    (ap (λ (s : Stage). stage_view s i.deploy i.end.items) c.in-Deploys.is)
    (ap (λ (s : model.Stage). record v { stage = s }) (ap (λ (s : Stage). stage_view s c.next-step.new.self i.end.items) c.in-Deploys.is ∙ ap model.Deploys c.next-step.ensures.after))
    c.next-step.ensures.step c.on_step.ensures)
