use Rattle.machine_rename.proofs.Whole as rename
use Rattle.classes.specs.Listed.{program_of}
use Rattle.assemblies.specs.Binding.{sources_of}
use Rattle.assemblies.specs.Chosen.{chosen_set, renaming}
use Rattle.assemblies.proofs.Whole.{answers}
use Rattle.kept_joined.proofs.JoinedLaws.{joined}
use Rattle.kept_joined.proofs.law.kept_rows_are_joined.Goals as goal

pub returns-clause-joined : goal.returns-clause-joined
returns-clause-joined c = joined

pub returns-clause-traces : goal.returns-clause-traces
returns-clause-traces c size more ps all keep grows has there judged closed leads rises n most fine =
    let low = program_of (sources_of more (chosen_set keep ps)) in
    let high = program_of (sources_of size ps) in
    rename.same (renaming keep ps) low high low.fetch high.fetch (answers size more keep ps (joined size more ps all keep grows has there judged closed leads rises)) (λ m at l e. e) (λ m at l e. e) n most fine
