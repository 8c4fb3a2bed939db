use Rattle.board_program.proofs.SetLaws.{same_rows}
use Rattle.board_program.proofs.law.sets_have_the_rows_of_their_parts.Goals as goal

pub returns : goal.returns
returns c = same_rows
