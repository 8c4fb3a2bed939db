use Rattle.std.proofs.Common.{◌≡◌, ◌+◌, ◌≤◌, length}
use Rattle.machine.specs.Data.{Cell}
use Rattle.tiny_ram.specs.Things.{Entry, Packed, layout_of}
use Rattle.tiny_ram.specs.Memory.{Memory, IsEntry}
use Rattle.tiny_ram.specs.Region.{Keeps}
use Rattle.tiny_native.specs.Copies.{AllHaveKind, Copied}
use Rattle.tiny_native.proofs.Copying.{low_of, high_of}
use Rattle.tiny_native.proofs.copies.copy.Given as goal

-- so many places are copied, from below or from above
abbrev pub invariant-loop-k : goal.invariant-loop-k
invariant-loop-k l = (m : Memory) (d e : Entry) (cell : Cell) → Keeps l.initial.ram m → IsEntry m l.from.thing d → IsEntry m l.to.thing e → layout_of e.shape ≡ Packed cell → l.from.index + l.count ≤ length d.places → l.to.index + l.count ≤ length e.places → AllHaveKind cell d.places l.from.index l.count → Copied l.ram m l.to.thing e cell d.places l.from.index l.to.index (low_of l.backwards l.count l.k) (high_of l.backwards l.count l.k)
