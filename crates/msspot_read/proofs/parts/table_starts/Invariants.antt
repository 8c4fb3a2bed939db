use Rattle.std.proofs.Common.{◌≡◌, ℕ, ◌+◌, ◌*◌, ◌<◌, ◌≤◌, length, get_or}
use Rattle.msspot_read.specs.Places.{table_start}
use Rattle.msspot_read.proofs.parts.table_starts.Given as goal

abbrev pub invariant-loop-t : goal.invariant-loop-t
invariant-loop-t l = record {
  len : length l.starts ≡ 11;
  at : l.at ≡ table_start l.bytes l.t;
  small : l.at ≤ 56 + 1441770 * l.t;
  starts : (j : ℕ) → j < l.t → get_or l.starts j 0 ≡ table_start l.bytes j;
}
