use Rattle.std.proofs.Common.{◌≡◌, map, take}
use Rattle.member_reading.specs.Natives.{native_shown, native_read}
use Rattle.member_reading.proofs.native.read_natives.Given as goal

abbrev pub invariant-loop-row : goal.invariant-loop-row
invariant-loop-row l = map native_shown l.members.items ≡ map (native_read l.types.names.now) (take l.row-index l.row-items)
