-- Rows that name nothing.
use Rattle.std.specs.Prelude.{ℕ, List, Option, Some, None, is_some, if◌then◌else◌}
use Rattle.member_keys.specs.declared.keys.ClassId.{ClassId}
use Rattle.scope_walk.specs.Walk.{value_at}
use Rattle.board_model.specs.Bound.{Row}
use Rattle.set_binding.specs.Tables.{number_of}
use Rattle.set_binding.specs.declared.lacking.LackingRow.{LackingRow}

abbrev pub unnamed_at : List (Option ClassId) → ℕ → Option ℕ
unnamed_at column n = if is_some (value_at column n) then None else Some n

abbrev pub row_seen : LackingRow → Row
row_seen r = record { assembly = r.assembly; table = number_of r.table; row = r.row }
