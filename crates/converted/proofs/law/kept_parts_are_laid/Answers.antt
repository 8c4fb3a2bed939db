use Rattle.converted.proofs.BodyLaws.{laid_law}
use Rattle.converted.proofs.law.kept_parts_are_laid.Goals as goal

pub returns : goal.returns
returns c files = laid_law files c.spelt_is_laid.ensures
