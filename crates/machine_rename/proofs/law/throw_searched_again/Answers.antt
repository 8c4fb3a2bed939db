use Rattle.machine_rename.proofs.AgainLaws.{again_first, again_next}
use Rattle.machine_rename.proofs.law.throw_searched_again.Goals as goal

pub returns : goal.returns
returns c = record { first = again_first; next = again_next }
