use Rattle.tiny_ops.proofs.Places.{value_kept, value_refused, zero_alike}
use Rattle.tiny_ops.proofs.law.places_keep_alike.Goals as goal

pub returns-clause-kept : goal.returns-clause-kept
returns-clause-kept c l cell v h = value_kept l cell v h

pub returns-clause-other : goal.returns-clause-other
returns-clause-other c l cell v h = value_refused l cell v h

pub returns-clause-zero : goal.returns-clause-zero
returns-clause-zero c l cell = zero_alike l cell
