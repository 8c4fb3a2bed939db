use Rattle.code_shrink.proofs.FileLines.{lines_same}
use Rattle.code_shrink.proofs.law.file_lines_are_read.Goals as goal

pub returns : goal.returns
returns c = lines_same
