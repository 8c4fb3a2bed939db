use Rattle.std.proofs.Common.{sym}
use Rattle.std.specs.Prelude.{get_or}
use Rattle.std.proofs.lemmas.Option.{slice_get-get_or}
use Rattle.code_shrink.specs.declared.starts.Start.{Start}
use Rattle.code_shrink.proofs.Found.{some_found, nowhere}
use Rattle.code_shrink.proofs.starts.found.Goals as goal

pub returns-then-start-at : goal.returns-then-start-at
returns-then-start-at c =
    let d : Start = record { long = 0; short = 0 } in
    sym (some_found c.args.starts.now c.args.at c.last_up_to.result (get_or c.args.starts.now c.last_up_to.result d) c.requires (slice_get-get_or c.args.starts.now c.last_up_to.result d c.last_up_to.ensures.inside) c.if-start-at.true)

pub returns-else-start-at : goal.returns-else-start-at
returns-else-start-at c =
    sym (nowhere c.args.starts.now c.args.at c.last_up_to.result (record { long = 0; short = 0 }) c.requires c.last_up_to.ensures.inside c.last_up_to.ensures.before c.last_up_to.ensures.behind c.if-start-at.false)
