use Rattle.world_rows.proofs.Alone.{faulty_law, faulty_method_law}
use Rattle.world_rows.proofs.law.faulty_signatures_equal_none.Goals as goal

pub returns : goal.returns
returns c = record { of_type = faulty_law; of_method = faulty_method_law }
