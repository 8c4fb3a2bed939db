use Rattle.world_rows.proofs.Alone.{resolve_alone}
use Rattle.world_rows.proofs.law.names_stay.Goals as goal

pub returns : goal.returns
returns c = resolve_alone
