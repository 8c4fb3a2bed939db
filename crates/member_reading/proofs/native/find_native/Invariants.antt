use Rattle.std.proofs.Common.{◌≡◌, None, map, take}
use Rattle.std.specs.List.{find}
use Rattle.std.specs.Option.{option_map}
use Rattle.member_keys.specs.Seen.{class_seen, signature_seen}
use Rattle.member_reading.specs.Natives.{native_shown, is_native}
use Rattle.member_reading.proofs.native.find_native.Given as goal

abbrev pub invariant-loop-native : goal.invariant-loop-native
invariant-loop-native l = find (is_native l.name (option_map class_seen l.owner) (option_map signature_seen l.signature)) (map native_shown (take l.native-index l.natives)) ≡ None
