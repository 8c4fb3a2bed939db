use Rattle.fitting_files.proofs.FewLaws.{are_there, are_few}
use Rattle.fitting_files.proofs.law.kept_rows_are_few.Goals as goal

pub returns : goal.returns
returns c = record { there = are_there; few = are_few }
