use Rattle.std.proofs.Common.{◌≡◌, ℕ, ◌-◌, ◌<◌, ◌≤◌, Some, length}
use Rattle.std.specs.Prelude.{slice_get}
use Rattle.code_shrink.specs.declared.starts.Start.{Start}
use Rattle.code_shrink.proofs.starts.last_up_to.Given as goal

abbrev pub invariant-search : goal.invariant-search
invariant-search l = record {
  apart : l.low < l.high;
  inside : l.high ≤ length l.starts;
  before : (k : ℕ) (s : Start) → 0 < k → k ≤ l.low → slice_get l.starts k ≡ Some s → s.long ≤ l.at;
  behind : (k : ℕ) (s : Start) → l.high ≤ k → slice_get l.starts k ≡ Some s → l.at < s.long;
}

abbrev pub decreases-search : goal.decreases-search
decreases-search l = l.high - l.low
