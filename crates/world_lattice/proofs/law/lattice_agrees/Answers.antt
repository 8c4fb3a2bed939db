use Rattle.world_lattice.proofs.OrderLaws.{pass_order, instruction_order, loaded_back}
use Rattle.world_lattice.proofs.law.lattice_agrees.Goals as goal

pub returns-clause-pass : goal.returns-clause-pass
returns-clause-pass c = pass_order

pub returns-clause-effects : goal.returns-clause-effects
returns-clause-effects c = instruction_order

pub returns-clause-loads : goal.returns-clause-loads
returns-clause-loads c = loaded_back
