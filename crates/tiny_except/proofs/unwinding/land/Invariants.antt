use Rattle.tiny_ram.specs.Memory.{Memory}
use Rattle.tiny_ram.specs.Region.{Keeps}
use Rattle.memory_states.specs.Told.{told}
use Rattle.tiny_except.proofs.Landings.{Going}
use Rattle.tiny_except.proofs.unwinding.land.Given as goal

-- some frames are left, and the stop is found among them
abbrev pub invariant-loop-passed : goal.invariant-loop-passed
invariant-loop-passed g l =
    (m : Memory) → Keeps l.fn.ram m → Going (told (g.S.Subclass.sub l.types) (g.S.Subclass.clauses l.types)) l.class m l.fn.ended l.ram l.ended l.passed
