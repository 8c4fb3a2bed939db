use Rattle.std.proofs.Common.{[], ◌++◌, get_or, refl, ap, ◌∙◌, arith}
use Rattle.image_bytes.specs.Layout.{word_onto}
use Rattle.msspot_write.proofs.OntoLaws.{more_onto}
use Rattle.msspot_write.proofs.writer.push_counts.Goals as goal

pub loop-count-preserved : goal.loop-count-preserved
loop-count-preserved c =
    let xs = c.args.counts.now in
    let i = c.loop-count.count-index in
    c.in_ok-push_word.ensures
    ∙ ap (λ ys. ys ++ word_onto (get_or xs i 0) []) c.loop-count.invariant
    ∙ more_onto word_onto (λ w rest. refl) c.args.out.now.items xs i 0 (omega arith)
