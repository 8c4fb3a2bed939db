use Rattle.std.proofs.Common.{◌≡◌, ◌≤◌, List, ◌∷◌, length}
use Rattle.std.specs.Prelude.{sum}
use Rattle.tiny_ram.specs.Memory.{Memory, RamFrame}
use Rattle.tiny_ram.specs.Region.{Keeps}
use Rattle.step_calls.specs.Arguments.{AreBeside, AreInside, HandedOver}
use Rattle.step_calls.proofs.arguments.hand_over.Given as goal

abbrev pub invariant-loop-i : goal.invariant-loop-i
invariant-loop-i g l = (m : Memory) (y f : RamFrame) (fs : List RamFrame) → Keeps l.initial.ram m → m.frames ≡ y ∷ f ∷ fs → AreBeside m.room y f fs l.from.frame l.to → AreInside f l.from l.n → l.n ≤ sum y.sizes → length y.places ≡ sum y.sizes → HandedOver l.ram m y f fs (g.P.Places.place l.places) l.from l.i
