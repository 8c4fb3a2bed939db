use Rattle.table_minimise.specs.FileLinks.{AddsFiles}
use Rattle.table_minimise.proofs.files.add_files.Given as goal

abbrev pub invariant-loop-file : goal.invariant-loop-file
invariant-loop-file l = AddsFiles l.sources.world.now l.sources.methods.table l.file l.fn.rules l.rules
