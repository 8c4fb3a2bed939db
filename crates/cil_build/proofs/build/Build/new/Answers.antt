use Rattle.cil_layout.proofs.Counts.{counted_first}
use Rattle.std.proofs.Common.{refl}
use Rattle.cil_build.proofs.build.Build.new.Goals as goal

pub invariant_of-result : goal.invariant_of-result
invariant_of-result c = rw c.new.ensures.items (rw c.in_ok-copied.ensures (counted_first c.args.name.now c.args.version _ _ refl c.heavier_name-weight.ensures))
