use Rattle.std.proofs.Common.{◌≤◌, length, max}
use Rattle.cil_tables.specs.Headers.{LeastBelow}
use Rattle.cil_tables.proofs.headers.least_repeat.Given as goal

abbrev pub invariant-loop-k : goal.invariant-loop-k
invariant-loop-k l = record { least : LeastBelow l.region l.starts l.k l.least; bound : l.k ≤ max 1 (length l.starts) }
