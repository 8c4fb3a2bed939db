use Rattle.tiny_ram.specs.Memory.{Memory}
use Rattle.tiny_ram.specs.Region.{Keeps}
use Rattle.memory_states.specs.Told.{Told, told}
use Rattle.tiny_except.proofs.Caught.{Walked}
use Rattle.tiny_except.proofs.unwinding.is_caught.Given as goal

-- from this frame on a catch is found where one is found at all
abbrev pub invariant-loop-passed : goal.invariant-loop-passed
invariant-loop-passed g l =
    let t : Told = told (g.S.Subclass.sub l.types) (g.S.Subclass.clauses l.types) in
    (m : Memory) → Keeps l.ram m → Walked t l.class m l.frame l.passed
