use Rattle.machine_rename.proofs.Wider.{trace_wide}
use Rattle.machine_rename.proofs.law.wider_trace.Goals as goal

pub returns : goal.returns
returns c = trace_wide
