use Rattle.std.proofs.Common.{◌≡◌, ℕ, List, length, map}
use Rattle.std.specs.Prelude.{Some, slice_get}
use Rattle.member_references.specs.declared.reference.Reference.{Reference}
use Rattle.member_references.specs.Meant.{AreMeant}
use Rattle.member_references.proofs.read.read_references.Given as goal

abbrev pub invariant-loop-file : goal.invariant-loop-file
invariant-loop-file l = record {
  size : length l.files.items ≡ l.file;
  each : (file : ℕ) (rs : List Reference) → slice_get (map (λ v. v.items) l.files.items) file ≡ Some rs → AreMeant l.names file rs;
}
