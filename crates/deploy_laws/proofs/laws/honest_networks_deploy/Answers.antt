use Rattle.std.proofs.Common.{suc, ◌+◌, length, ap, sym, subst, ◌∙◌, true, false}
use Rattle.deploy_model.specs.Banks.{found}
use Rattle.deploy_model.specs.Deployment.{banks, plan_for, operations, after_all}
use Rattle.deploy_model.specs.World.{World, begins, asleep}
use Rattle.deploy_model.specs.Play.{HasTheRun, ended, fetch_count}
use Rattle.deploy_laws.proofs.Honest.{honest_deploys, honest_opens, honest_add}
use Rattle.deploy_laws.proofs.Running.{runs_ready}
use Rattle.deploy_laws.proofs.Whole.{safe_all}
use Rattle.deploy_laws.proofs.laws.honest_networks_deploy.Goals as goal

pub returns-clause-deploys : goal.returns-clause-deploys
returns-clause-deploys c parts g set content format can size bytes unspent work =
    let done = honest_deploys parts g content set work can bytes unspent in (
      ap (λ (w : World). w.tool.told) done.world ∙ done.told,
      ap (λ (w : World). found parts.format w.content) done.world ∙ ap (found parts.format) done.content ∙ (safe_all parts.format set content format can size unspent).1,
    )

pub returns-clause-runs : goal.returns-clause-runs
returns-clause-runs c parts g set content can bytes unspent work runs =
    let ops = operations (plan_for (banks parts.format content)) set in
    let deployed = after_all ops content in
    subst (λ (w : World). HasTheRun parts g deployed w) (sym (honest_add parts (suc (suc (length ops))) (2 + fetch_count (ended parts g deployed).text) (begins (asleep content) g)))
    (runs_ready parts g true deployed _ (honest_deploys parts g content set work can bytes unspent) runs)

pub returns-clause-only_runs : goal.returns-clause-only_runs
returns-clause-only_runs c parts g content work runs =
    subst (λ (w : World). HasTheRun parts g content w) (sym (honest_add parts 1 (2 + fetch_count (ended parts g content).text) (begins (asleep content) g)))
    (runs_ready parts g false content _ (honest_opens parts g content work) runs)
