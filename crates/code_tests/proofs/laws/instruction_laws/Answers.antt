use Rattle.code_tests.proofs.ShapeLaws.{falls_law}
use Rattle.code_tests.proofs.LineLaws.{targets_law}
use Rattle.code_tests.proofs.TestLaws.{starts}
use Rattle.code_tests.proofs.laws.instruction_laws.Goals as goal

pub returns-clause-starts : goal.returns-clause-starts
returns-clause-starts c = starts

pub returns-clause-goes : goal.returns-clause-goes
returns-clause-goes c = targets_law

pub returns-clause-falls : goal.returns-clause-falls
returns-clause-falls c = falls_law
