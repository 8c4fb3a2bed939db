use Rattle.std.proofs.Common.{◌≡◌, min, arith, ap, ◌∙◌, subst}
use Rattle.kept_rows.specs.Select.{below}
use Rattle.row_numbers.specs.Tables.{range_by}
use Rattle.kept_marks.specs.Kept.{Marked, marked_in}
use Rattle.kept_marks.proofs.RankLaws.{below_is}
use Rattle.kept_marks.proofs.kept.Kept.below.Goals as goal

pub returns : goal.returns
returns c =
    let r = c.range-range.result in
    let same : r ≡ range_by c.args.self.now.counts c.args.table c.args.file = c.range-range.ensures.range ∙ ap (λ (v : Marked). range_by v.counts c.args.table c.args.file) c.self.view_is in
    let few : c.min-few.result ≡ min c.args.row r.count = omega (arith, c.min-few.ensures, c.from.ensures) in
    subst (λ q. c.between.result ≡ below (marked_in c.args.self.now.marks q) c.args.row) same
    (below_is c.args.self.now.marks r c.args.row c.min-few.result c.between.result few c.between.ensures)
