use Rattle.machine_typed.proofs.Runs.{never_stuck}
use Rattle.machine_typed.proofs.law.never_stuck.Goals as goal

pub returns : goal.returns
returns c = never_stuck
