use Rattle.std.proofs.Common.{◌≡◌, ℕ, ◌<◌, None, Some}
use Rattle.std.specs.Prelude.{slice_get}
use Rattle.profile_order.specs.declared.tables.ProfileTable.{ProfileTable}
use Rattle.profile_order.specs.Told.{table_told}
use Rattle.profile_order.proofs.order.tables_fault.Given as goal

abbrev pub invariant-loop-table : goal.invariant-loop-table
invariant-loop-table l = (k : ℕ) (table : ProfileTable) → k < l.table-index → slice_get l.tables k ≡ Some table → table_told l.judge.subject.now.world.now l.file table ≡ None
