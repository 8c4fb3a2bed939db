use Rattle.enough_steps.proofs.ChosenWays.{ways}
use Rattle.enough_steps.proofs.law.chosen_ways_end.Goals as goal

pub returns : goal.returns
returns c = ways
