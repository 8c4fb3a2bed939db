use Rattle.std.proofs.Common.{◌≡◌, ℕ, ◌<◌, None, get_or}
use Rattle.file_tables.specs.declared.schema.TheConstants.{LOOKED_AT}
use Rattle.file_tables.specs.Rules.{first_broken}
use Rattle.file_tables.specs.Metadata as metadata
use Rattle.cil_tables.proofs.check.check_tables.Given as goal

abbrev pub invariant-loop-table : goal.invariant-loop-table
invariant-loop-table l = (j : ℕ) → j < l.table-index → first_broken (metadata.rules_of_rows l.tables (get_or LOOKED_AT j 0)) ≡ None
