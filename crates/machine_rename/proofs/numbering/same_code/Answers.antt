use Rattle.machine_rename.proofs.PlaceLaws.{code_law, order_law}
use Rattle.machine_rename.proofs.numbering.same_code.Goals as goal

pub returns : goal.returns
returns c = record { code = code_law; order = order_law }
