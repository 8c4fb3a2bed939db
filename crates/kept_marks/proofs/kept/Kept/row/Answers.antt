use Rattle.std.proofs.Common.{◌<◌, sym, ◌∙◌, subst}
use Rattle.row_numbers.specs.Tables.{AreCounts}
use Rattle.kept_marks.specs.Kept.{Marked}
use Rattle.kept_marks.proofs.RankLaws.{a_first, row_kept}
use Rattle.kept_marks.proofs.kept.Kept.row.Goals as goal

pub returns-then-holds : goal.returns-then-holds
returns-then-holds c ps are =
    let counts = subst (λ (v : Marked). AreCounts ps v.counts) (sym c.self.view_is) are in
    let w = a_first ps c.args.self.now.marks c.args.table c.args.file c.in_ok-first.first (sym (c.in_ok-first.ensures ps counts)) in
    row_kept ps c.args.self.now.marks c.args.table c.args.file c.in_ok-first.first w.0 w.1 w.2 c.args.row c.between.result
    (subst (λ n. c.args.row < n) (c.count.ensures ps counts) c.if-row-count.false)
    (sym c.holds.ensures ∙ c.if-holds.true) c.between.ensures
