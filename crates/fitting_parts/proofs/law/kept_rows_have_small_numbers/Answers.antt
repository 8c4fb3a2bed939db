use Rattle.fitting_parts.proofs.KeptLaws.{has_small_numbers}
use Rattle.fitting_parts.proofs.law.kept_rows_have_small_numbers.Goals as goal

pub returns : goal.returns
returns c = has_small_numbers
