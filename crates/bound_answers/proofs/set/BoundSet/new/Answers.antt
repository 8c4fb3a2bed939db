use Rattle.bound_answers.proofs.set.BoundSet.new.Goals as goal

pub invariant_of-result : goal.invariant_of-result
invariant_of-result c = record { types = c.requires.types; bound = c.requires.bound }
