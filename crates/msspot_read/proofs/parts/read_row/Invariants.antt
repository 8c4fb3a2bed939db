use Rattle.std.proofs.Common.{◌≡◌, ℕ, ◌<◌, ◌≤◌, length, get_or}
use Rattle.msspot_read.specs.Places.{words}
use Rattle.msspot_read.proofs.parts.read_row.Given as goal

abbrev pub invariant-loop-k : goal.invariant-loop-k
invariant-loop-k l = record {
  len : length l.columns ≡ 11;
  read : (j : ℕ) → j < l.k → get_or l.columns j 0 ≡ get_or (words l.width l.at l.bytes) j 0;
  zeros : (j : ℕ) → l.k ≤ j → get_or l.columns j 0 ≡ 0;
}
