use Rattle.std.proofs.Common.{◌≡◌, ◌-◌}
use Rattle.cil_sig.specs.Reading.{slots_at}
use Rattle.cil_sig.proofs.Loop.{with_front}
use Rattle.cil_sig.proofs.reading.slot_types.Given as goal

abbrev pub invariant-loop : goal.invariant-loop
invariant-loop l = with_front l.types.items (slots_at l.slot (l.count - l.counter) l.rest) ≡ slots_at l.slot l.count l.bytes
