use Rattle.std.proofs.Common.{◌≡◌, ◌++◌}
use Rattle.class_reading.proofs.NumberLaws.{signatures, between, listed}
use Rattle.class_reading.proofs.fields.read_number.Given as goal

abbrev pub invariant-loop-n : goal.invariant-loop-n
invariant-loop-n l = signatures (between l.tables l.first l.end) ≡ listed l.signature ++ signatures (between l.tables l.n l.end)
