use Rattle.code_shrink.proofs.Whole.{read_law, lines_law}
use Rattle.code_shrink.proofs.law.shrunk_code_is_read.Goals as goal

pub returns : goal.returns
returns c = record { instructions = read_law; lines = lines_law }
