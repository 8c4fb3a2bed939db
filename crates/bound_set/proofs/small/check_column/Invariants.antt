use Rattle.std.proofs.Common.{◌≡◌, ℕ, ◌<◌, Some}
use Rattle.std.specs.Prelude.{slice_get}
use Rattle.member_keys.specs.declared.keys.ClassId.{ClassId}
use Rattle.bound_set.specs.Small.{IsSmall}
use Rattle.bound_set.proofs.small.check_column.Given as goal

abbrev pub invariant-loop-class : goal.invariant-loop-class
invariant-loop-class l = (n : ℕ) (c : ClassId) → n < l.class-index → slice_get l.column n ≡ Some (Some c) → IsSmall c
