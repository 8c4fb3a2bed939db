use Rattle.flash_trait.proofs.Operations.{made_none, made_more, made_stays, made_failed, made_join}
use Rattle.flash_trait.proofs.flash_law.operations.Goals as goal

pub returns-clause-none : goal.returns-clause-none
returns-clause-none c s = made_none s

pub returns-clause-whole : goal.returns-clause-whole
returns-clause-whole c ops op first old new made is = made_more ops op first old new made is.telling is.log

pub returns-clause-cut : goal.returns-clause-cut
returns-clause-cut c ops op first old new made is = made_more ops op first old new made is.telling is.log

pub returns-clause-failed : goal.returns-clause-failed
returns-clause-failed c ops op first old new made is = made_failed ops op first old new made is

pub returns-clause-stays : goal.returns-clause-stays
returns-clause-stays c ops first old new made telling log = made_stays ops first old new made telling log

pub returns-clause-join : goal.returns-clause-join
returns-clause-join c ops more first middle last a b = made_join ops more first middle last a b
