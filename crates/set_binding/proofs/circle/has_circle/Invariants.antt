use Rattle.set_names.specs.Names.{seen_all}
use Rattle.set_binding.proofs.FirstLaws.{NoneBelow}
use Rattle.set_binding.proofs.LackingLaws.{circle_at}
use Rattle.set_binding.proofs.circle.has_circle.Given as goal

abbrev pub invariant-loop-row : goal.invariant-loop-row
invariant-loop-row l = NoneBelow (circle_at (seen_all l.names) l.file) l.row
