use Rattle.cil_code.proofs.Walked.{walk_ends, walk_fails, walk_goes}
use Rattle.cil_code.proofs.walk.walk_laws.Goals as goal

pub returns-clause-ends : goal.returns-clause-ends
returns-clause-ends c = walk_ends

pub returns-clause-stops : goal.returns-clause-stops
returns-clause-stops c = walk_fails

pub returns-clause-goes_on : goal.returns-clause-goes_on
returns-clause-goes_on c = walk_goes
