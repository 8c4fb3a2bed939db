use Rattle.std.proofs.Common.{arith}
use Rattle.machine.specs.Data.{end_of}
use Rattle.machine_rename.proofs.GrowsRows.{step_grows, cells_fall}
use Rattle.machine_rename.proofs.law.cells_never_fall.Goals as goal

pub returns : goal.returns
returns c = record { objects = λ p s t e. step_grows (end_of s.heap) p s (omega arith) t e; frames = cells_fall }
