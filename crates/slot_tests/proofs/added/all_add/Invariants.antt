use Rattle.std.proofs.Common.{ℕ, ◌<◌}
use Rattle.class_table.specs.Seen.{classes_seen}
use Rattle.slot_tests.specs.Told.{FileAdds}
use Rattle.slot_tests.proofs.added.all_add.Given as goal

abbrev pub invariant-loop-file : goal.invariant-loop-file
invariant-loop-file l = (k : ℕ) → k < l.file → FileAdds l.subject.world.now (classes_seen l.subject.setting.table.now) k
