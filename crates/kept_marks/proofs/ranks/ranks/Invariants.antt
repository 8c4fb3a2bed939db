use Rattle.kept_marks.proofs.RankLaws.{AreFew}
use Rattle.kept_marks.proofs.ranks.ranks.Given as goal

abbrev pub invariant-loop-row : goal.invariant-loop-row
invariant-loop-row l = record { few : AreFew l.marks l.ranks.items l.row l.count }
