use Rattle.std.proofs.Common.{◌≡◌, ℕ, length, Some}
use Rattle.std.specs.Prelude.{slice_get}
use Rattle.profile_order.specs.declared.judge.FileColumns.{FileColumns}
use Rattle.profile_order.specs.Judge.{AreFileColumns}
use Rattle.profile_order.proofs.judge.read_files.Given as goal

abbrev pub invariant-loop-file : goal.invariant-loop-file
invariant-loop-file l = record {
  count : length l.all.items ≡ l.file;
  each : (k : ℕ) (c : FileColumns) → slice_get l.all.items k ≡ Some c → AreFileColumns l.subject.world.now k c;
}
