use Rattle.std.proofs.Common.{◌≡◌, ℕ, length}
use Rattle.std.specs.Prelude.{Some, slice_get}
use Rattle.member_references.specs.declared.reference.Reference.{Reference}
use Rattle.member_references.specs.Meant.{IsMeant}
use Rattle.member_references.proofs.read.read_file.Given as goal

abbrev pub invariant-loop-n : goal.invariant-loop-n
invariant-loop-n l = record {
  size : length l.references.items ≡ l.n;
  each : (i : ℕ) (r : Reference) → slice_get l.references.items i ≡ Some r → IsMeant l.members.names.now l.file i r;
}
