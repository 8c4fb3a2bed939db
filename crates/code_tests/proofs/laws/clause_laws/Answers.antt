use Rattle.code_tests.proofs.MeantLaws.{goes_alike, leaves_alike, caught_alike, final_alike, none_alike, tries_alike}
use Rattle.code_tests.proofs.laws.clause_laws.Goals as goal

pub returns-clause-goes : goal.returns-clause-goes
returns-clause-goes c = goes_alike

pub returns-clause-leaves : goal.returns-clause-leaves
returns-clause-leaves c = leaves_alike

pub returns-clause-catches : goal.returns-clause-catches
returns-clause-catches c = caught_alike

pub returns-clause-finals : goal.returns-clause-finals
returns-clause-finals c = final_alike

pub returns-clause-none : goal.returns-clause-none
returns-clause-none c = none_alike

pub returns-clause-tries : goal.returns-clause-tries
returns-clause-tries c = tries_alike
