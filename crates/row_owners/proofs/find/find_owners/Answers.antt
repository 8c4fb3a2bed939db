use Rattle.std.proofs.Common.{◌≡◌, ◌++◌, length, drop, take, ap, ◌∙◌, arith, slice_get}
use Rattle.row_owners.proofs.OwnerLaws.{front}
use Rattle.row_owners.proofs.OwnerLaws.{owners_more}
use Rattle.row_owners.proofs.find.find_owners.Goals as goal

pub loop-n-preserved : goal.loop-n-preserved
loop-n-preserved c =
    let kept : length c.claim.new.owners ≡ length c.loop-n.owners.items = c.claim.ensures.size ∙ ap length c.deref_mut.ensures.value in
    let whole : take c.loop-n.owners.len (c.claim.new.owners ++ drop (length c.claim.new.owners) c.loop-n.owners.items) ≡ c.claim.new.owners = front c.claim.new.owners _ c.loop-n.owners.len (kept ∙ omega (arith, c.loop-n.owners.ok)) in
    record {
      size = ap length whole ∙ kept ∙ c.loop-n.invariant.size;
      each = λ row h. ap (λ xs. slice_get xs row) whole ∙ owners_more c.args.spans.now c.loop-n.n _ c.deref_mut.result.now c.claim.new.owners c.args.count c.loop-n-test.true c.claim.ensures.each (λ r g. ap (λ xs. slice_get xs r) c.deref_mut.ensures.value ∙ c.loop-n.invariant.each r g) row h;
    }
