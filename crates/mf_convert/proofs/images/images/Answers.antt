use Rattle.std.proofs.Common.{◌∙◌, ◌+◌, ◌++◌, ap, arith, subst, sym}
use Rattle.mf_convert.proofs.ImagesLaws.{AreDone, a_file, is_refused, one_done}
use Rattle.mf_convert.proofs.images.images.Goals as goal

pub returns-in-Err : goal.returns-in-Err
returns-in-Err c =
    let files = c.args.world.now in
    let marks = c.args.kept.now.marks in
    let z = a_file files marks c.loop-file.file (omega (arith, c.loop-file-test.true, c.files-file-end.ensures.count)) in
    is_refused files marks c.loop-file.file c.loop-file.set.items z.0 c.in-Err.refusal c.loop-file.invariant z.1 (c.in-Err.ensures z.0 z.1)

pub loop-file-preserved : goal.loop-file-preserved
loop-file-preserved c =
    let files = c.args.world.now in
    let marks = c.args.kept.now.marks in
    let z = a_file files marks c.loop-file.file (omega (arith, c.loop-file-test.true, c.files-file-end.ensures.count)) in
    let added = c.in_ok-extend_from_slice-in-Ok.ensures.items ∙ ap (λ bytes. c.loop-file.set.items ++ bytes) c.deref.ensures.value in
    subst (AreDone files marks (c.loop-file.file + 1)) (sym added) (one_done files marks c.loop-file.file c.loop-file.set.items z.0 c.loop-file.invariant z.1 c.in-Ok.image.items (c.in-Ok.ensures z.0 z.1))
