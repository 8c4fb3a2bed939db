use Rattle.std.proofs.Common.{◌≡◌, None, take}
use Rattle.std.specs.List.{position}
use Rattle.member_reading.specs.Natives.{is_class}
use Rattle.member_reading.proofs.native.find_row.Given as goal

abbrev pub invariant-loop-n : goal.invariant-loop-n
invariant-loop-n l = position (is_class l.namespace l.name) (take l.n l.rows) ≡ None
