use Rattle.board_program.proofs.SetLaws.{bad_is_stuck}
use Rattle.board_program.proofs.law.bad_code_is_a_missing_case.Goals as goal

pub returns : goal.returns
returns c = bad_is_stuck
