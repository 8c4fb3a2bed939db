use Rattle.row_rules.specs.Links.{Adds}
use Rattle.definition_rules.specs.Definitions.{type_definitions}
use Rattle.definition_rules.proofs.types.add_type_definitions.Given as goal

abbrev pub invariant-loop-n : goal.invariant-loop-n
invariant-loop-n l = Adds (type_definitions l.world l.file l.n) l.fn.rules l.rules
