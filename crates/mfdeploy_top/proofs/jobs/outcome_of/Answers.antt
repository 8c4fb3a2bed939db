use Rattle.std.proofs.Common.{Option, Err, ap, refl, subst, sym}
use Rattle.mf_front.specs.declared.jobs.Job.{Job}
use Rattle.mfdeploy_top.specs.Jobs.{ComesTo}
use Rattle.mfdeploy_top.proofs.JobLaws.{not_asked, no_memory}
use Rattle.mfdeploy_top.proofs.jobs.outcome_of.Goals as goal

pub returns-in-Ok : goal.returns-in-Ok
returns-in-Ok g c =
    let old = g.S.Store.state c.args.store.now in
    let new = g.S.Store.state c.done.new.store in
    subst (λ (job : Option Job). ComesTo job old new c.done.result) (sym c.in-Ok.ensures.found) c.done.ensures

pub returns-in-Err-NoJob : goal.returns-in-Err-NoJob
returns-in-Err-NoJob g c = not_asked _ _ (c.in-Err-NoJob.ensures.none (ap (λ e. Err e) c.in-Err-NoJob.field-0-is))

pub returns-in-Err-NoMemory : goal.returns-in-Err-NoMemory
returns-in-Err-NoMemory g c = no_memory _ _ _ (λ name. refl)
