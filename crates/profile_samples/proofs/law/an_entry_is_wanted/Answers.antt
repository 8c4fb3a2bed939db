use Rattle.profile_samples.proofs.Entry.{entry}
use Rattle.profile_samples.proofs.law.an_entry_is_wanted.Goals as goal

pub returns : goal.returns
returns c = entry
