use Rattle.std.proofs.Common.{◌+◌, ◌*◌, ◌≤◌, length}
use Rattle.cil_tables.proofs.StreamLaws.{SearchedTo}
use Rattle.cil_tables.proofs.root.find_stream.Given as goal

abbrev pub invariant-loop : goal.invariant-loop
invariant-loop l = record { searched : SearchedTo l.region l.name l.fn.first l.counter l.at; bound : l.at ≤ length l.region + 12 + 12 * l.counter }
