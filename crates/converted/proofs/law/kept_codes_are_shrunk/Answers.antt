use Rattle.converted.proofs.ChosenCodes.{shrunk_law}
use Rattle.converted.proofs.law.kept_codes_are_shrunk.Goals as goal

pub returns : goal.returns
returns c = shrunk_law
