use Rattle.root_marks.proofs.RootLaws.{are_roots}
use Rattle.root_marks.proofs.law.marks_are_of_roots.Goals as goal

pub returns : goal.returns
returns c = are_roots
