use Rattle.std.proofs.Common.{length, ap, ◌∙◌, arith}
use Rattle.std.proofs.lemmas.List.{take_all}
use Rattle.board_program.specs.Parts.{set_parts}
use Rattle.boot_scan.specs.Sets.{images_in}
use Rattle.bound_set.proofs.StandLaws.{sized_of, parts_count, one_more}
use Rattle.bound_set.proofs.view.view_set.Goals as goal

pub loop-k-preserved : goal.loop-k-preserved
loop-k-preserved c =
    let bytes = c.args.flash.now in
    let set = c.args.set.now in
    let many = parts_count bytes set (sized_of bytes set c.requires c.is_sized.ensures.places c.is_sized.ensures.sizes) in
    c.in_ok-push.ensures.items ∙ one_more c.loop-k.images.items (set_parts (images_in bytes set)) c.loop-k.k c.image_of.result c.loop-k.invariant (omega (arith, many, c.loop-k-test.true)) c.image_of.ensures

pub returns-clause-images : goal.returns-clause-images
returns-clause-images c =
    let bytes = c.args.flash.now in
    let set = c.args.set.now in
    let many = parts_count bytes set (sized_of bytes set c.requires c.is_sized.ensures.places c.is_sized.ensures.sizes) in
    c.loop-k.invariant ∙ take_all c.loop-k.k (set_parts (images_in bytes set)) (omega (arith, many, c.loop-k-test.false))

pub returns-clause-few : goal.returns-clause-few
returns-clause-few c =
    let bytes = c.args.flash.now in
    let set = c.args.set.now in
    let many = parts_count bytes set (sized_of bytes set c.requires c.is_sized.ensures.places c.is_sized.ensures.sizes) in
    let same = ap length (c.loop-k.invariant ∙ take_all c.loop-k.k (set_parts (images_in bytes set)) (omega (arith, many, c.loop-k-test.false))) in
    let few = c.requires.inside.few in
    omega (arith, many, same, few)
