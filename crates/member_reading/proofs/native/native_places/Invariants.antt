use Rattle.std.proofs.Common.{◌≡◌, Some, map, take}
use Rattle.assemblies.specs.Binding.{all_some}
use Rattle.member_keys.specs.Seen.{place_seen}
use Rattle.member_reading.specs.Natives.{knows, place_of_native}
use Rattle.member_reading.proofs.native.native_places.Given as goal

abbrev pub invariant-loop-parameter : goal.invariant-loop-parameter
invariant-loop-parameter l = all_some (place_of_native (knows l.known)) (take l.parameter-index l.parameters) ≡ Some (map place_seen l.places.items)
