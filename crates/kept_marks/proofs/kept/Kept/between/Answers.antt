use Rattle.std.proofs.Common.{◌≡◌, ◌+◌, ◌-◌, min, length, arith, subst}
use Rattle.kept_marks.specs.Ranks.{rank}
use Rattle.kept_marks.specs.Kept.{Marked}
use Rattle.kept_marks.proofs.RankLaws.{rank_read, rank_below}
use Rattle.kept_marks.proofs.kept.Kept.between.Goals as goal

pub overflow_sub-result : goal.overflow_sub-result
overflow_sub-result c =
    let start : c.min-start.result ≡ min c.args.first (length c.self.inside.marks.items) = omega (arith, c.min-start.ensures, c.len.ensures, c.self.inside.marks.ok) in
    let end : c.min-end.result ≡ min c.args.end (length c.self.inside.marks.items) = omega (arith, c.min-end.ensures, c.len-2.ensures, c.self.inside.marks.ok) in
    let low = rank_read c.self.inside.marks.items c.self.inside.ranks.items c.self.invariant c.args.first c.min-start.result c.index-2.result.now start c.index-2.ensures in
    let high = rank_read c.self.inside.marks.items c.self.inside.ranks.items c.self.invariant c.args.end c.min-end.result c.index.result.now end c.index.ensures in
    let order = rank_below c.self.inside.marks.items c.args.first c.args.end c.requires in
    omega (arith, low, high, order)

pub returns : goal.returns
returns c =
    let start : c.min-start.result ≡ min c.args.first (length c.self.inside.marks.items) = omega (arith, c.min-start.ensures, c.len.ensures, c.self.inside.marks.ok) in
    let end : c.min-end.result ≡ min c.args.end (length c.self.inside.marks.items) = omega (arith, c.min-end.ensures, c.len-2.ensures, c.self.inside.marks.ok) in
    let low = rank_read c.self.inside.marks.items c.self.inside.ranks.items c.self.invariant c.args.first c.min-start.result c.index-2.result.now start c.index-2.ensures in
    let high = rank_read c.self.inside.marks.items c.self.inside.ranks.items c.self.invariant c.args.end c.min-end.result c.index.result.now end c.index.ensures in
    let order = rank_below c.self.inside.marks.items c.args.first c.args.end c.requires in
    subst (λ (v : Marked). rank v.marks c.args.first + (c.index.result.now - c.index-2.result.now) ≡ rank v.marks c.args.end) c.self.view_is (omega (arith, low, high, order))
