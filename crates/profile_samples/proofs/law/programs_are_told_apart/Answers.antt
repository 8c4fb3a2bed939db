use Rattle.profile_samples.proofs.SameName.{same_name}
use Rattle.profile_samples.proofs.Circle.{circle}
use Rattle.profile_samples.proofs.Changes.{plain, all_told}
use Rattle.profile_samples.proofs.law.programs_are_told_apart.Goals as goal

pub returns-clause-same_name : goal.returns-clause-same_name
returns-clause-same_name c = same_name

pub returns-clause-circle : goal.returns-clause-circle
returns-clause-circle c = circle

pub returns-clause-plain : goal.returns-clause-plain
returns-clause-plain c = plain

pub returns-clause-changes : goal.returns-clause-changes
returns-clause-changes c = all_told
