use Rattle.table_minimise.proofs.NumberLaws.{CountsTo}
use Rattle.table_minimise.proofs.numbers.count_tables.Given as goal

abbrev pub invariant-loop-file : goal.invariant-loop-file
invariant-loop-file l = CountsTo l.world l.file l.counts.items
