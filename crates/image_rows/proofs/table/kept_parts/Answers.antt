use Rattle.std.proofs.Common.{◌≡◌, ◌+◌, ◌<◌, true, false, [], length, get_or, sym, ◌∙◌, arith}
use Rattle.kept_marks.specs.Masks.{masks_of}
use Rattle.image_rows.proofs.SelectLaws.{one_more, one_counted, one_left, none_counted}
use Rattle.image_rows.proofs.table.kept_parts.Goals as goal
use Rattle.image_rows.proofs.table.kept_parts.Goals.{then-belongs+in_ok-push_kept, else-belongs}

pub loop-n-preserved : goal.loop-n-preserved
loop-n-preserved g c =
    let rows = g.T.TableParts.rows c.args.of.now in
    let test = g.T.TableParts.belongs c.args.of.now in
    let part = g.T.TableParts.part c.args.of.now in
    let keep = masks_of c.args.choice.now c.args.table in
    let within : c.loop-n.n < length rows = omega (arith, c.requires) in
    elim c.if-belongs.branch [
      | then-belongs+in_ok-push_kept w ↦
          let passes : test (get_or rows c.loop-n.n []) ≡ true = sym c.belongs.ensures ∙ w.if-belongs.true in
          let next : c.if-belongs.number ≡ c.loop-n.number + 1 = cc w.number-is in
          let out : c.if-belongs.out.items ≡ w.push_kept.new.out.items = cc w.out-is in
          record {
            few = omega (arith, next, c.loop-n.invariant.few);
            counted = next ∙ one_counted keep test part rows c.loop-n.n c.loop-n.number [] within passes c.loop-n.invariant.counted;
            made = out ∙ one_more keep test part rows c.loop-n.out.items w.push_kept.new.out.items c.loop-n.n c.loop-n.number [] within passes c.loop-n.invariant.counted c.loop-n.invariant.made (w.in_ok-push_kept.ensures {u = tt});
          }
      | else-belongs w ↦
          let fails : test (get_or rows c.loop-n.n []) ≡ false = sym c.belongs.ensures ∙ w.if-belongs.false in
          let same : c.if-belongs.number ≡ c.loop-n.number = cc w.number-is in
          let out : c.if-belongs.out.items ≡ c.loop-n.out.items = cc w.out-is in
          record {
            few = omega (arith, same, c.loop-n.invariant.few);
            counted = same ∙ none_counted keep test part rows c.loop-n.n c.loop-n.number [] within fails c.loop-n.invariant.counted;
            made = out ∙ one_left keep test part rows c.loop-n.out.items c.loop-n.n [] within fails c.loop-n.invariant.made;
          }
    ]
