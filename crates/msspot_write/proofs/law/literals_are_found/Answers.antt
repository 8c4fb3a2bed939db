use Rattle.msspot_write.proofs.LiteralLaws.{literal_law}
use Rattle.msspot_write.proofs.law.literals_are_found.Goals as goal

pub returns : goal.returns
returns c = λ p text. literal_law text p
