use Rattle.cut_numbers.proofs.FileLaws.{signatures_fit}
use Rattle.cut_numbers.proofs.law.signatures_of_few_rows_fit.Goals as goal

pub returns : goal.returns
returns c = signatures_fit
