use Rattle.std.proofs.Common.{◌≡◌, ◌+◌, ◌≤◌, ◌*◌, ◌^◌}
use Rattle.std.specs.Prelude.{drop, sum_by}
use Rattle.cil_verify.proofs.CountLaws.{rows}
use Rattle.cil_verify.specs.Counts.{rows_behind}
use Rattle.cil_verify.proofs.counts.count_rows.Given as goal

abbrev pub invariant-loop-file : goal.invariant-loop-file
invariant-loop-file l =
    record { count : l.count + sum_by (rows l.table) (drop l.file l.world) ≡ rows_behind l.world l.table; few : l.count ≤ l.file * 2 ^ 32 }
