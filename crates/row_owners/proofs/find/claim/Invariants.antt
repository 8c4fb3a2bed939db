use Rattle.row_owners.proofs.OwnerLaws.{AreClaimed}
use Rattle.std.proofs.Common.{◌≡◌, length}
use Rattle.row_owners.proofs.find.claim.Given as goal

abbrev pub invariant-loop-row : goal.invariant-loop-row
invariant-loop-row l = record { size : length l.owners ≡ length l.fn.owners; claimed : AreClaimed l.fn.owners l.owners l.first l.row l.n }
