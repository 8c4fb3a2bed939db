use Rattle.std.proofs.Common.{◌≡◌, ℕ, ◌<◌, true, get_or}
use Rattle.file_tables.specs.declared.schema.Column.TheVariants.{Two}
use Rattle.file_tables.specs.Metadata as metadata
use Rattle.cil_tables.proofs.check.keeps_columns.Given as goal

abbrev pub invariant-loop-k : goal.invariant-loop-k
invariant-loop-k l = (j : ℕ) → j < l.k → metadata.is_column l.tables (get_or l.column-items j Two) (get_or l.before.columns j 0) (get_or l.row.columns j 0) ≡ true
