use Rattle.kept_marks.proofs.RankLaws.{marked_is}
use Rattle.kept_marks.proofs.law.marked_rows_are_kept.Goals as goal

pub returns : goal.returns
returns c = marked_is
