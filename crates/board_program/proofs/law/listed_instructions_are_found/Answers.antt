use Rattle.board_program.proofs.Finds.{finds}
use Rattle.board_program.proofs.law.listed_instructions_are_found.Goals as goal

pub returns : goal.returns
returns c = finds
