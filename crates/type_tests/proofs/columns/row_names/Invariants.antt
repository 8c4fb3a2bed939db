use Rattle.std.proofs.Common.{◌≡◌, map, take}
use Rattle.type_names.specs.Names.{type_seen}
use Rattle.type_tests.specs.Columns.{class_name}
use Rattle.type_tests.proofs.columns.row_names.Given as goal

abbrev pub invariant-loop-row : goal.invariant-loop-row
invariant-loop-row l = map type_seen l.keys.items ≡ map class_name (take l.row-index l.rows)
