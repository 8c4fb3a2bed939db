use Rattle.std.proofs.Common.{◌≡◌, ◌*◌, ◌≤◌, length}
use Rattle.machine.specs.Data.{Bits, bytes_of}
use Rattle.tiny_ops.specs.Operators.{Leads}
use Rattle.tiny_ram.specs.Things.{Entry, Packed, layout_of}
use Rattle.tiny_ram.specs.Memory.{Memory, IsEntry}
use Rattle.tiny_ram.specs.Region.{Keeps}
use Rattle.tiny_native.specs.Told.{Filled}
use Rattle.tiny_native.proofs.fields.put_numbers.Given as goal

abbrev pub invariant-loop-index : goal.invariant-loop-index
invariant-loop-index g l = (m : Memory) (d : Leads) (e : Entry) → IsEntry m l.thing e → layout_of e.shape ≡ Packed (Bits l.integer) → l.count ≡ length e.places → l.count * bytes_of l.integer ≤ length (g.S.Subclass.bytes l.types l.field) → Keeps l.initial.ram m → Filled l.ram m d l.thing e l.integer (g.S.Subclass.bytes l.types l.field) l.index
