use Rattle.enough_steps.proofs.References.{same_references}
use Rattle.enough_steps.proofs.law.references_name_the_same.Goals as goal

pub returns : goal.returns
returns c = same_references
