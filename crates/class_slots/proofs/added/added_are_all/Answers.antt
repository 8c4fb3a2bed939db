use Rattle.class_slots.proofs.AddedLaws.{all_filled}
use Rattle.class_slots.proofs.added.added_are_all.Goals as goal

pub returns : goal.returns
returns c = all_filled
