use Rattle.std.proofs.Common.{◌≡◌, ◌-◌, true, take}
use Rattle.std.specs.List.{list_all, list_any, range_with_len}
use Rattle.class_table.specs.Seen.{body_seen}
use Rattle.library_tests.specs.Methods.{is_number}
use Rattle.library_tests.proofs.methods.has_range.Given as goal

abbrev pub invariant-loop-number : goal.invariant-loop-number
invariant-loop-number l = list_all (λ number. list_any (λ row. is_number number (body_seen row.body)) l.rows) (take (l.number - l.first) (range_with_len l.first (l.end - l.first))) ≡ true
