use Rattle.machine_rename.proofs.LeaveLaws.{leave_first, leave_next}
use Rattle.machine_rename.proofs.law.leave_searched_again.Goals as goal

pub returns : goal.returns
returns c = record { first = leave_first; next = leave_next }
