use Rattle.std.proofs.Common.{◌≡◌, ℕ, ◌+◌, ◌*◌, ◌<◌, ◌≤◌, get_or, length}
use Rattle.file_tables.specs.Metadata.{present_before}
use Rattle.cil_tables.specs.Layout.{count_behind}
use Rattle.cil_tables.proofs.layout.read_counts.Given as goal

abbrev pub invariant-loop-t : goal.invariant-loop-t
invariant-loop-t l = record {
  at : l.at ≡ l.begin + 24 + 4 * present_before l.valid l.t;
  small : l.at ≤ l.begin + 24 + 4 * l.t;
  len : length l.counts ≡ 64;
  counts : (k : ℕ) → k < l.t → get_or l.counts k 0 ≡ count_behind l.region l.begin l.valid k;
}
