use Rattle.std.proofs.Common.{◌≡◌, ℕ, ◌+◌, ◌<◌, true, get_or}
use Rattle.file_tables.specs.Metadata as metadata
use Rattle.cil_tables.proofs.check.check_table.Given as goal

abbrev pub invariant-loop-k : goal.invariant-loop-k
invariant-loop-k l = record {
  before : (j : ℕ) → j < 9 → get_or l.before.columns j 0 ≡ metadata.column_of l.tables l.table l.k j;
  kept : (j : ℕ) → j < l.k → metadata.is_row l.tables l.table (1 + j) ≡ true;
}
