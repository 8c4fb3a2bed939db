use Rattle.std.proofs.Common.{◌≡◌, length}
use Rattle.std.specs.Prelude.{Bool}
use Rattle.tiny_ram.specs.Memory.{Memory}
use Rattle.tiny_native.specs.Texts.{Written}
use Rattle.tiny_native.specs.Told.{bracketed}
use Rattle.tiny_native.proofs.names.put_name.Given as goal

abbrev pub invariant-loop-k : goal.invariant-loop-k
invariant-loop-k g l = (m : Memory) (array : Bool) → l.count ≡ length (bracketed array (g.S.Subclass.name l.types l.of)) → Written l.initial.ram m (bracketed array (g.S.Subclass.name l.types l.of)) l.thing l.count 0 → Written l.ram m (bracketed array (g.S.Subclass.name l.types l.of)) l.thing l.count l.k
