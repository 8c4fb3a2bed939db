use Rattle.board_program.proofs.Finds.{finds}
use Rattle.board_program.proofs.law.boards_are_twins.Goals as goal

pub returns : goal.returns
returns c = λ r is ecma ecma_starts whole taken answers within. record { answers = answers; board_finds = finds is whole taken; ecma_finds = within }
