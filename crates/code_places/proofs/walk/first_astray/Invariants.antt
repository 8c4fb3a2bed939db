use Rattle.std.proofs.Common.{◌≡◌, ◌≤◌, ◌-◌, length}
use Rattle.code_places.specs.Places.{first_astray}
use Rattle.code_places.proofs.WalkLaws.{rest, astray_in}
use Rattle.code_places.proofs.walk.first_astray.Given as goal

abbrev pub invariant-walk : goal.invariant-walk
invariant-walk l = record { inside : l.at ≤ length l.code; later : astray_in l.code (rest l.code l.at) ≡ first_astray l.code }

abbrev pub decreases-walk : goal.decreases-walk
decreases-walk l = length l.code - l.at
