use Rattle.std.proofs.Common.{◌-◌}
use Rattle.boot_scan.proofs.WalkLaws.{Walking}
use Rattle.boot_scan.proofs.walk.walk.Given as goal

abbrev pub invariant-images : goal.invariant-images
invariant-images l = Walking l.bytes l.fn.start l.place l.set.count l.set.at l.set.size l.entries

abbrev pub decreases-images : goal.decreases-images
decreases-images l = 32 - l.set.count
