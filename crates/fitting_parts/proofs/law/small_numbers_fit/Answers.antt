use Rattle.fitting_parts.proofs.RowLaws.{small_fits}
use Rattle.fitting_parts.proofs.law.small_numbers_fit.Goals as goal

pub returns : goal.returns
returns c = small_fits
