use Rattle.std.proofs.Common.{◌≡◌, ◌-◌}
use Rattle.cil_sig.specs.Places.{behind_slots}
use Rattle.cil_sig.proofs.places.behind_types.Given as goal

abbrev pub invariant-loop : goal.invariant-loop
invariant-loop l = behind_slots l.slot (l.count - l.counter) l.rest ≡ behind_slots l.slot l.count l.bytes
