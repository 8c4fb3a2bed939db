use Rattle.assemblies.specs.Chosen.{chosen_set}
use Rattle.enough_steps.proofs.Whole.{program}
use Rattle.enough_steps.proofs.ChosenWays.{ways, has_one}
use Rattle.enough_steps.proofs.law.chosen_rows_need_their_own_size.Goals as goal

pub returns : goal.returns
returns c size more keep ps j arrays e room = program more (chosen_set keep ps) (has_one size more keep ps j arrays e) room (ways size more keep ps j)
