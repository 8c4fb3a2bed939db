use Rattle.std.proofs.Common.{length}
use Rattle.tiny_ram.specs.Memory.{Memory}
use Rattle.tiny_native.specs.Texts.{Written}
use Rattle.tiny_native.proofs.texts.put_bytes.Given as goal

abbrev pub invariant-loop-k : goal.invariant-loop-k
invariant-loop-k l = (m : Memory) → Written l.initial.ram m l.bytes l.thing (length l.bytes) 0 → Written l.ram m l.bytes l.thing (length l.bytes) l.k
