use Rattle.world_rows.proofs.Read.{world_is_read}
use Rattle.world_rows.proofs.law.world_is_read.Goals as goal

pub returns : goal.returns
returns c = world_is_read
