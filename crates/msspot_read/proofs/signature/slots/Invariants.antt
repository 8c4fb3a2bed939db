use Rattle.std.proofs.Common.{◌≡◌, ◌-◌}
use Rattle.msspot_read.specs.After.{after_slots}
use Rattle.msspot_read.proofs.signature.slots.Given as goal

abbrev pub invariant-loop : goal.invariant-loop
invariant-loop l = after_slots l.parts l.slot (l.count - l.counter) l.rest ≡ after_slots l.parts l.slot l.count l.bytes
