use Rattle.std.proofs.Common.{◌≡◌, false, take}
use Rattle.std.specs.List.{list_any}
use Rattle.class_table.specs.Seen.{body_seen}
use Rattle.library_tests.specs.Methods.{is_number}
use Rattle.library_tests.proofs.methods.has_native.Given as goal

abbrev pub invariant-loop-row : goal.invariant-loop-row
invariant-loop-row l = list_any (λ row. is_number l.number (body_seen row.body)) (take l.row-index l.rows) ≡ false
