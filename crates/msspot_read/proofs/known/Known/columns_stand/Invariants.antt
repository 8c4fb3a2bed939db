use Rattle.std.proofs.Common.{◌≡◌, drop}
use Rattle.msspot_read.specs.Held.{all_stand}
use Rattle.msspot_read.proofs.known.Known.columns_stand.Given as goal

abbrev pub invariant-loop-k : goal.invariant-loop-k
invariant-loop-k l = all_stand l.self (drop l.k l.columns) (drop l.k l.row.columns) ≡ all_stand l.self l.columns l.row.columns
