-- What a deployment comes to next, behind the stage of the deployment.
use Rattle.std.proofs.Common.{◌≡◌, List, ℕ, Option, Some, None, refl, sym, ap, ◌∙◌}
use Rattle.deploy_model.specs.Deployment.{Deploying, Next, Asks, IsDeployed, HasFailed, IsSpent, next_of, beginning}
use Rattle.deploy_model.specs.Tool.{Tool, Goal, Work, DeploysAndRuns, Stage, Deploys, on_next, on_stage, opens, blank, no_plan}
use Rattle.tool_session.specs.Goals.{set_of}

-- the stage doesn't matter for what comes next
pub same_next : (t : Tool) (stage : Stage) (n : Next) (d : Deploying) → on_next (record t { stage = stage }) (n, d) ≡ on_next t (n, d)
same_next t stage (Asks command payload) d = refl
same_next t stage IsDeployed d = refl
same_next t stage HasFailed d = refl
same_next t stage IsSpent d = refl

whole : (t : Tool) (x : Next × Deploying) → on_next t (x.0, x.1) ≡ on_next t x
whole t (n, d) = refl

-- a step is taken by a tool whose deployment went on already
pub stepped : (t mid new : Tool) (x : Next × Deploying) (n : Next) → mid ≡ record t { stage = Deploys x.1 } → n ≡ x.0 → ((e : Deploying) → mid.stage ≡ Deploys e → new ≡ on_next mid (n, e)) → new ≡ on_next t x
stepped t mid new x n is step by =
    by x.1 (ap (λ (u : Tool). u.stage) is)
    ∙ ap (λ (u : Tool). on_next u (n, x.1)) is
    ∙ same_next t (Deploys x.1) n x.1
    ∙ ap (λ (m : Next). on_next t (m, x.1)) step
    ∙ whole t x

pub stage_stepped : (t mid new : Tool) (payload : List ℕ) (d : Deploying) (n : Next) → t.stage ≡ Deploys d → mid ≡ record t { stage = Deploys (next_of d (Some payload)).1 } → n ≡ (next_of d (Some payload)).0
    → ((e : Deploying) → mid.stage ≡ Deploys e → new ≡ on_next mid (n, e)) → new ≡ on_stage t payload t.stage
stage_stepped t mid new payload d n stage is step by =
    stepped t mid new (next_of d (Some payload)) n is step by ∙ sym (ap (λ (s : Stage). on_stage t payload s) stage)

-- a session begins whose deployment went on already
pub opened : (g : Goal) (mid new : Tool) (set : List ℕ) (first after : Deploying) (n : Next) → g.work ≡ DeploysAndRuns set → first ≡ beginning (set_of g.work) no_plan → mid ≡ record (blank g) { stage = Deploys after }
    → n ≡ (next_of first None).0 → after ≡ (next_of first None).1 → ((e : Deploying) → mid.stage ≡ Deploys e → new ≡ on_next mid (n, e)) → new ≡ opens g g.work
opened g mid new set first after n work begins is step then by =
    let x = next_of (beginning set no_plan) None in
    let begun : next_of first None ≡ x = ap (λ (d : Deploying). next_of d None) (begins ∙ ap (λ (w : Work). beginning (set_of w) no_plan) work) in
    stepped (blank g) mid new x n (is ∙ ap (λ (d : Deploying). record (blank g) { stage = Deploys d }) (then ∙ ap (λ (y : Next × Deploying). y.1) begun)) (step ∙ ap (λ (y : Next × Deploying). y.0) begun) by
    ∙ sym (ap (λ (w : Work). opens g w) work)
