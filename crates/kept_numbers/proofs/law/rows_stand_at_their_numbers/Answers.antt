use Rattle.kept_numbers.proofs.NumberLaws.{stands_at_number}
use Rattle.kept_numbers.proofs.law.rows_stand_at_their_numbers.Goals as goal

pub returns : goal.returns
returns c = stands_at_number
