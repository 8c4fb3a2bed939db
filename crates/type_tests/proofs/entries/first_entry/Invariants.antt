use Rattle.std.proofs.Common.{◌≡◌}
use Rattle.type_tests.specs.Entries.{entry_after}
use Rattle.type_tests.proofs.entries.first_entry.Given as goal

abbrev pub invariant-loop-file : goal.invariant-loop-file
invariant-loop-file l = entry_after l.world 2 ≡ entry_after l.world l.file
