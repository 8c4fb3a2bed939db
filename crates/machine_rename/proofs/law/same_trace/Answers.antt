use Rattle.machine_rename.proofs.TraceLaws.{trace_law, trace_same}
use Rattle.machine_rename.proofs.law.same_trace.Goals as goal

pub returns : goal.returns
returns c = record { renamed = trace_law; equal = trace_same }
