use Rattle.tiny_ram.specs.Memory.{Memory, RamFrame, IsFrame}
use Rattle.tiny_ram.specs.Region.{Keeps}
use Rattle.step_calls.specs.Arguments.{AreInside, AllKept}
use Rattle.step_calls.proofs.arguments.keeps_all.Given as goal

abbrev pub invariant-loop-i : goal.invariant-loop-i
invariant-loop-i g l = (m : Memory) (f : RamFrame) → Keeps l.ram m → IsFrame m l.from.frame f → AreInside f l.from l.n → AllKept f (g.P.Places.place l.places) l.from l.i
