use Rattle.set_binding.specs.Lacking.{unnamed_at}
use Rattle.set_binding.proofs.FirstLaws.{NoneBelow}
use Rattle.set_binding.proofs.lacking.first_unnamed.Given as goal

abbrev pub invariant-loop-n : goal.invariant-loop-n
invariant-loop-n l = NoneBelow (unnamed_at l.column) l.n
