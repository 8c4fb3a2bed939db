use Rattle.machine_rename.proofs.Whole as rename
use Rattle.classes.specs.Listed.{program_of}
use Rattle.assemblies.specs.Binding.{sources_of}
use Rattle.assemblies.specs.Chosen.{chosen_set, renaming}
use Rattle.assemblies.proofs.Whole.{answers}
use Rattle.assemblies.proofs.law.chosen_rows_run_alike.Goals as goal

pub returns-clause-answers : goal.returns-clause-answers
returns-clause-answers c = answers

pub returns-clause-traces : goal.returns-clause-traces
returns-clause-traces c size more keep ps j n most fine =
    let low = program_of (sources_of more (chosen_set keep ps)) in
    let high = program_of (sources_of size ps) in
    rename.same (renaming keep ps) low high low.fetch high.fetch (answers size more keep ps j) (λ m at l e. e) (λ m at l e. e) n most fine
