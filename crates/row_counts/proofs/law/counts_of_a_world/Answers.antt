use Rattle.row_counts.proofs.CountLaws.{world_counts}
use Rattle.row_counts.proofs.law.counts_of_a_world.Goals as goal

pub returns : goal.returns
returns c = world_counts
