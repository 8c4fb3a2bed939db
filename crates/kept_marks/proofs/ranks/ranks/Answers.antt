use Rattle.std.proofs.Common.{◌≡◌, ◌+◌, sym, arith, subst, length}
use Rattle.kept_marks.specs.Ranks.{AreRanks}
use Rattle.kept_marks.proofs.RankLaws.{AreFew, one_kept, one_left, whole}
use Rattle.kept_marks.proofs.ranks.ranks.Goals as goal
use Rattle.kept_marks.proofs.ranks.ranks.Goals.{then-marks-row, else-marks-row}

pub loop-row-preserved : goal.loop-row-preserved
loop-row-preserved c =
    elim c.if-marks-row.branch [
      | then-marks-row w ↦ record { few = subst (λ n. AreFew c.args.marks.now c.push.new.self.items (c.loop-row.row + 1) n) (sym w.count-is) (subst (λ xs. AreFew c.args.marks.now xs (c.loop-row.row + 1) (c.loop-row.count + 1)) (sym c.in_ok-push.ensures.items) (one_kept c.args.marks.now c.loop-row.ranks.items c.loop-row.row c.loop-row.count c.loop-row.invariant.few w.if-marks-row.true)) }
      | else-marks-row w ↦ record { few = subst (λ n. AreFew c.args.marks.now c.push.new.self.items (c.loop-row.row + 1) n) (sym w.count-is) (subst (λ xs. AreFew c.args.marks.now xs (c.loop-row.row + 1) c.loop-row.count) (sym c.in_ok-push.ensures.items) (one_left c.args.marks.now c.loop-row.ranks.items c.loop-row.row c.loop-row.count c.loop-row.invariant.few w.if-marks-row.false)) }
    ]

pub returns : goal.returns
returns c =
    let all : c.loop-row.row ≡ length c.args.marks.now = omega (arith, c.loop-row-test.false, c.loop-row.auto.row-end) in
    subst (λ xs. AreRanks c.args.marks.now xs) (sym c.in_ok-push-2.ensures.items) (whole c.args.marks.now c.loop-row.ranks.items c.loop-row.row c.loop-row.count all c.loop-row.invariant.few)
