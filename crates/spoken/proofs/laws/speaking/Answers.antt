use Rattle.spoken.proofs.Speaking.{begins, hears, again, next}
use Rattle.spoken.proofs.laws.speaking.Goals as goal

pub returns : goal.returns
returns c = record { begins = begins; hears = hears; again = again; next = next }
