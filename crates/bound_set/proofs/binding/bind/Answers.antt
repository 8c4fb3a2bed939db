use Rattle.std.proofs.Common.{length, ap, arith}
use Rattle.bound_set.proofs.binding.bind.Goals as goal

pub new-requires : goal.new-requires
new-requires c = let same = ap length c.deref.ensures.value in let few = c.in_ok-images.ensures.few in omega (arith, same, few)
