use Rattle.pass_steps.proofs.PlaceLaws.{front_nearest, front_first, first_handled}
use Rattle.pass_steps.proofs.laws.front_laws.Goals as goal

pub returns-clause-nearest : goal.returns-clause-nearest
returns-clause-nearest c = front_nearest

pub returns-clause-first : goal.returns-clause-first
returns-clause-first c = front_first

pub returns-clause-begins : goal.returns-clause-begins
returns-clause-begins c = first_handled
