use Rattle.std.proofs.Common.{ℕ, List, map, subst}
use Rattle.mfdeploy_top.specs.Jobs.{AreRead}
use Rattle.mfdeploy_top.proofs.JobLaws.{comes, not_read}
use Rattle.mfdeploy_top.specs.Jobs.{IsUnreadOf}
use Rattle.mfdeploy_top.proofs.jobs.done.Goals as goal

pub returns-in-Ok : goal.returns-in-Ok
returns-in-Ok g c =
    let old = g.S.Store.state c.args.store.now in
    let bytes = map (λ bytes. bytes.items) c.in-Ok.all.items in
    comes c.args.asked bytes old _ _ _
    (subst (λ (files : List (List ℕ)). AreRead old files bytes) c.files.ensures c.in-Ok.ensures.read)
    c.in-Ok.ensures.read_only
    c.in-Ok.ensures.files_stay
    c.answer.ensures

pub returns-in-Err : goal.returns-in-Err
returns-in-Err g c =
    let old = g.S.Store.state c.args.store.now in
    let new = g.S.Store.state c.read_files.new.store in
    not_read c.args.asked old new c.in-Err.refusal _ c.in-Err.ensures.files_stay
    (subst (λ (files : List (List ℕ)). IsUnreadOf files old new c.in-Err.refusal) c.files.ensures c.in-Err.ensures.unread)
    c.unread.ensures
