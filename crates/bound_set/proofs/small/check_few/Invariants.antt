use Rattle.std.proofs.Common.{◌≡◌, ◌<◌}
use Rattle.class_queries.specs.Numbers.{start_at}
use Rattle.bound_set.proofs.small.check_few.Given as goal

abbrev pub invariant-loop-file : goal.invariant-loop-file
invariant-loop-file l = record { total : l.total ≡ start_at l.table l.file-index; few : l.total < 4294967295 }
