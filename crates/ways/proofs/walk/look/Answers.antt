use Rattle.std.proofs.Common.{◌≡◌, ◌∙◌, sym, ap, suc, ◌+◌, max, Some, arith, subst}
use Rattle.std.proofs.lemmas.Option.{slice_get-get_or}
use Rattle.ways.specs.declared.walk.Mark.TheVariants as mark
use Rattle.ways.specs.Walk.{HasTaken}
use Rattle.ways.proofs.WaysLaws.{taken_more}
use Rattle.ways.proofs.walk.look.Goals as goal

pub loop-edge-preserved : goal.loop-edge-preserved
loop-edge-preserved g c = record {
  lengthens =
      λ known marked taken small.
      let so_far = c.loop-edge.invariant.lengthens known marked taken small in
      let fits = marked c.step-node.result (mark.Height c.in-Height.other) (slice_get-get_or c.args.walk.now.marks.items c.step-node.result _ (omega (arith, c.step-node.ensures.inside, c.requires.size)) ∙ ap Some (sym c.index.ensures ∙ c.in-Height.is)) in
      let next : suc c.loop-edge.edge ≡ c.loop-edge.edge + 1 = omega arith in
      let longer = subst (λ k. HasTaken (g.W.Ways.next c.args.ways.now) c.args.place.node k (max c.loop-edge.height c.in-Height.other)) next (taken_more (g.W.Ways.next c.args.ways.now) c.args.place.node c.loop-edge.edge c.step-node.result c.loop-edge.height c.in-Height.other c.step-node.ensures.leads so_far.0 fits.0) in
      (subst (λ h. HasTaken (g.W.Ways.next c.args.ways.now) c.args.place.node (c.loop-edge.edge + 1) h) (sym c.max-height.ensures) longer, omega (arith, so_far.1, fits.1, c.max-height.ensures));
}
