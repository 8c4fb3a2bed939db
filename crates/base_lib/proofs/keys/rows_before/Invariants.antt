use Rattle.std.proofs.Common.{◌≡◌, ◌≤◌, ◌==◌, count_by, take}
use Rattle.base_tables.specs.Shape.{items_of}
use Rattle.base_lib.specs.Keys.{table_of}
use Rattle.base_lib.proofs.keys.rows_before.Given as goal

abbrev pub invariant-loop-item : goal.invariant-loop-item
invariant-loop-item l = (l.count ≡ count_by (λ x. table_of x == l.table) (items_of (take l.item-index l.before))) × (l.count ≤ l.item-index)
