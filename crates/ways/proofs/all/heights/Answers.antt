use Rattle.std.proofs.Common.{◌≡◌, ◌∙◌, sym, ap, subst, arith, map}
use Rattle.ways.specs.Heights.{AreHeights}
use Rattle.ways.specs.Walk.{height_of}
use Rattle.ways.proofs.DoneLaws.{heights_told}
use Rattle.ways.proofs.MoveLaws.{take_whole}
use Rattle.ways.proofs.all.heights.Goals as goal

pub visit_all-requires-clause-done : goal.visit_all-requires-clause-done
visit_all-requires-clause-done g c = c.in_ok-walk.ensures.done (g.W.Ways.next c.args.ways.now)

pub returns-clause-heights : goal.returns-clause-heights
returns-clause-heights g c =
    let marks = c.in_ok-visit_all.ensures in
    let items : c.loop-mark.heights.items ≡ map height_of c.visit_all.new.walk.marks.items = c.loop-mark.invariant.told ∙ ap (λ ms. map height_of ms) (take_whole c.deref-mark-items.result.now c.loop-mark.mark-index (omega (arith, c.loop-mark-test.false)) ∙ c.deref-mark-items.ensures.value) in
    subst (λ hs. AreHeights (g.W.Ways.next c.args.ways.now) hs) (sym items) (heights_told (g.W.Ways.next c.args.ways.now) c.visit_all.new.walk marks.done marks.met)
