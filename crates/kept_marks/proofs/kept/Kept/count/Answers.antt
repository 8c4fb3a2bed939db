use Rattle.std.proofs.Common.{◌≡◌, ◌+◌, sym, subst}
use Rattle.row_numbers.specs.Tables.{AreCounts}
use Rattle.kept_marks.specs.Ranks.{rank}
use Rattle.kept_marks.specs.Kept.{Marked}
use Rattle.kept_marks.proofs.RankLaws.{a_first, count_is}
use Rattle.kept_marks.proofs.kept.Kept.count.Goals as goal

pub returns : goal.returns
returns c ps are =
    let counts = subst (λ (v : Marked). AreCounts ps v.counts) (sym c.self.view_is) are in
    let w = a_first ps c.args.self.now.marks c.args.table c.args.file c.in-Some.first (sym (c.in-Some.ensures ps counts)) in
    count_is ps c.args.self.now.marks c.args.table c.args.file c.in-Some.first w.0 w.1 w.2 c.between.result
    (subst (λ n. rank c.args.self.now.marks c.in-Some.first + c.between.result ≡ rank c.args.self.now.marks (c.in-Some.first + n)) (c.count.ensures ps counts) c.between.ensures)
