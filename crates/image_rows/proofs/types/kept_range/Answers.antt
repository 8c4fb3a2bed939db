use Rattle.std.proofs.Common.{◌≡◌, ◌+◌, ap, ◌∙◌, arith}
use Rattle.kept_rows.specs.Select.{below}
use Rattle.assemblies.proofs.Owners.{below_add}
use Rattle.kept_marks.specs.Masks.{masks_of}
use Rattle.image_rows.proofs.types.kept_range.Goals as goal

pub overflow_sub-end : goal.overflow_sub-end
overflow_sub-end c =
    let keep = masks_of c.args.choice.now c.args.table in
    let added = below_add keep c.args.first c.args.count in
    let before : c.below-before.result ≡ below keep c.args.first = c.below-before.ensures ∙ ap (below keep) c.from.ensures in
    let end : c.below-end.result ≡ below keep (c.args.first + c.args.count) = c.below-end.ensures ∙ ap (λ n. below keep (n + c.from-3.result)) c.from-2.ensures ∙ ap (λ n. below keep (c.args.first + n)) c.from-3.ensures in
    omega (arith, added, before, end)
