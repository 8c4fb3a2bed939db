use Rattle.std.proofs.Common.{◌≡◌, drop}
use Rattle.verdict_rules.specs.Members.{first_wrong}
use Rattle.signature_tests.specs.Fits.{admits, fits_at}
use Rattle.signature_tests.specs.Lists.{in_list}
use Rattle.signature_tests.proofs.walk.list_wrong.Given as goal

abbrev pub invariant-loop-k : goal.invariant-loop-k
invariant-loop-k l =
    first_wrong l.blob (fits_at l.subject.world.now l.file (admits l.handles)) (in_list l.listed l.k (drop l.k l.types))
    ≡ first_wrong l.blob (fits_at l.subject.world.now l.file (admits l.handles)) (in_list l.listed 0 l.types)
