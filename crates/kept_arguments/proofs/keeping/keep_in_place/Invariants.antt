use Rattle.std.proofs.Common.{◌≡◌, ◌+◌, ◌≤◌, List, ◌∷◌, length}
use Rattle.std.specs.Prelude.{sum}
use Rattle.tiny_ram.specs.Memory.{Memory, RamFrame, innermost}
use Rattle.tiny_ram.specs.Region.{Keeps}
use Rattle.kept_arguments.specs.Kept.{KeptInPlace}
use Rattle.kept_arguments.proofs.keeping.keep_in_place.Given as goal

abbrev pub invariant-loop-i : goal.invariant-loop-i
invariant-loop-i g l = (m : Memory) (f : RamFrame) (fs : List RamFrame) → Keeps l.initial.ram m → m.frames ≡ f ∷ fs → l.from.frame ≡ innermost m.room m.frames → l.from.first + l.n ≤ sum f.sizes → sum f.sizes ≤ 4194304 → length f.places ≡ sum f.sizes → KeptInPlace l.ram m f fs (g.P.Places.place l.places) l.from.first l.i
