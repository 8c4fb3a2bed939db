use Rattle.converted.proofs.CutLaws.{stays, counts_stay}
use Rattle.converted.proofs.law.parts_that_fit_stay.Goals as goal

pub returns : goal.returns
returns c = record { parts = stays; counts = counts_stay }
