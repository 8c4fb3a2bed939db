use Rattle.std.proofs.Common.{◌≡◌, ℕ, ◌<◌, true}
use Rattle.assemblies.specs.Binding.{id_at}
use Rattle.class_table.specs.Seen.{classes_seen}
use Rattle.slot_tests.specs.Told.{class_adds}
use Rattle.slot_tests.proofs.added.file_adds.Given as goal

abbrev pub invariant-loop-n : goal.invariant-loop-n
invariant-loop-n l = (k : ℕ) → k < l.n → class_adds (classes_seen l.subject.setting.table.now) (id_at l.file k) ≡ true
