use Rattle.msspot_write.proofs.SpeltLaws.{image_law}
use Rattle.msspot_write.proofs.law.spelt_is_laid.Goals as goal

pub returns : goal.returns
returns c = image_law
