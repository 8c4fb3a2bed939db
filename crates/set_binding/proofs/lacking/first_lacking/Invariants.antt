use Rattle.board_model.specs.Bound.{lacking_assembly}
use Rattle.set_names.specs.Names.{seen_all}
use Rattle.set_binding.proofs.FirstLaws.{NoneBelow}
use Rattle.set_binding.proofs.lacking.first_lacking.Given as goal

abbrev pub invariant-loop-file : goal.invariant-loop-file
invariant-loop-file l = NoneBelow (lacking_assembly (seen_all l.names)) l.file
