use Rattle.world_rows.proofs.Opened.{opened, types_stand}
use Rattle.world_rows.proofs.law.opened_rows_stand.Goals as goal

pub returns : goal.returns
returns c = record { rows = opened; types = types_stand }
