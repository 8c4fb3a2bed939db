use Rattle.kept_marks.specs.Masks.{masks_of}
use Rattle.image_rows.proofs.WalkLaws.{made_more, counted_more}
use Rattle.image_rows.proofs.walk.ranged_parts.Goals as goal

pub loop-n-preserved : goal.loop-n-preserved
loop-n-preserved g c =
    let keep = masks_of c.args.choice.now c.args.table in
    let parts = g.T.RangedParts.parts c.args.of.now in
    let range = g.T.RangedParts.range c.args.of.now in
    record {
      made = made_more parts range keep c.loop-n.n c.loop-n.out.items c.push_ranged.new.out.items c.loop-n.first c.loop-n.invariant.made c.loop-n.invariant.counted c.in_ok-push_ranged.ensures.parts;
      counted = counted_more parts range keep c.loop-n.n c.loop-n.first c.push_ranged.new.first c.loop-n.invariant.counted c.in_ok-push_ranged.ensures.next;
    }
