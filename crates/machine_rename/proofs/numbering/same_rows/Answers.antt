use Rattle.machine_rename.proofs.KeptLaws.{row_law}
use Rattle.machine_rename.proofs.numbering.same_rows.Goals as goal

pub returns : goal.returns
returns c = row_law
