use Rattle.std.proofs.Common.{◌+◌, length, sym, ap, ◌∙◌, subst, Some}
use Rattle.std.specs.Prelude.{slice_get}
use Rattle.std.proofs.lemmas.Option.{slice_get-get_or}
use Rattle.scope_walk.proofs.Lists.{longer}
use Rattle.set_names.specs.Names.{Each, FindsTypes}
use Rattle.set_names.proofs.IndexLaws.{each_more}
use Rattle.set_names.proofs.names.all_type_places.Goals as goal

pub loop-image-preserved : goal.loop-image-preserved
loop-image-preserved c =
    let pushed = c.in_ok-push.ensures.items in
    record {
      count = ap length pushed ∙ longer c.loop-image.types.items c.in_ok-type_places.field-0 ∙ ap (λ k. k + 1) c.loop-image.invariant.count;
      each =
          subst (λ ys. Each FindsTypes c.args.images.now ys) (sym pushed)
          (each_more FindsTypes c.args.images.now c.loop-image.types.items c.image-item.result c.in_ok-type_places.field-0
          (ap (slice_get c.args.images.now) c.loop-image.invariant.count ∙ slice_get-get_or c.args.images.now c.loop-image.image-index c.image-item.result c.loop-image-test.true ∙ ap Some (sym c.image-item.is))
          c.in_ok-type_places.ensures c.loop-image.invariant.each);
    }
