use Rattle.std.proofs.Common.{◌≡◌, ℕ, ◌+◌, ◌*◌, ◌<◌, ◌≤◌, length, get_or}
use Rattle.msspot_read.specs.Places.{pool_start}
use Rattle.msspot_read.proofs.parts.pool_starts.Given as goal

abbrev pub invariant-loop-k : goal.invariant-loop-k
invariant-loop-k l = record {
  len : length l.starts ≡ 5;
  at : l.at ≡ pool_start l.bytes l.k;
  small : l.at ≤ l.first + 65535 * l.k;
  starts : (j : ℕ) → j < l.k + 1 → get_or l.starts j 0 ≡ pool_start l.bytes j;
}
