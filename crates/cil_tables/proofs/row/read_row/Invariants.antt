use Rattle.std.proofs.Common.{◌≡◌, ℕ, ◌+◌, ◌*◌, ◌<◌, ◌≤◌, get_or, length}
use Rattle.file_tables.specs.Tables as tables
use Rattle.cil_tables.proofs.RowLaws.{RestAt}
use Rattle.cil_tables.proofs.row.read_row.Given as goal

abbrev pub invariant-loop-k : goal.invariant-loop-k
invariant-loop-k l = record {
  len : length l.numbers ≡ 9;
  small : l.at ≤ l.start + 256 * l.k;
  read : (j : ℕ) → j < l.k → get_or l.numbers j 0 ≡ get_or (tables.numbers_at l.region l.start l.columns) j 0;
  zeros : (j : ℕ) → l.k ≤ j → get_or l.numbers j 0 ≡ 0;
  rest : RestAt l.region l.columns l.start l.k l.at;
}
