use Rattle.msspot_read.proofs.MarkLaws.{none_marked}
use Rattle.msspot_read.proofs.marks.Marks.none.Goals as goal

pub returns : goal.returns
returns c k = none_marked 1024 k
