use Rattle.board_model.specs.Bound.{circle_in}
use Rattle.set_names.specs.Names.{seen_all}
use Rattle.set_binding.proofs.FirstLaws.{NoneBelow}
use Rattle.set_binding.proofs.circle.circle_among.Given as goal

abbrev pub invariant-loop-file : goal.invariant-loop-file
invariant-loop-file l = NoneBelow (circle_in (seen_all l.names)) l.file
