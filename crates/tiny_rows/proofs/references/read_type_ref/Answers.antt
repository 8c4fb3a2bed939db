use Rattle.std.proofs.Common.{◌∙◌, sym, ap, subst}
use Rattle.std.specs.Prelude.{IsSome}
use Rattle.image_form.specs.Whole.{scope_in}
use Rattle.tiny_rows.specs.Rows.{name_in}
use Rattle.tiny_rows.proofs.RowLaws.{is_some_from, ref_there, ref_made}
use Rattle.tiny_rows.proofs.references.read_type_ref.Goals as goal

pub read_scope-requires : goal.read_scope-requires
read_scope-requires c =
    let i = c.args.image.now in
    let there = ref_there i c.has_rows.ensures c.args.n c.requires in
    subst (λ w. IsSome (scope_in i w)) (sym (c.row-row.ensures.columns 0)) (is_some_from _ there.scope there.scoped)

pub name-requires : goal.name-requires
name-requires c =
    let i = c.args.image.now in
    let there = ref_there i c.has_rows.ensures c.args.n c.requires in
    subst (λ w. IsSome (name_in i w)) (sym (c.row-row.ensures.columns 1)) (is_some_from _ there.namespace there.spaced)

pub name-requires-2 : goal.name-requires-2
name-requires-2 c =
    let i = c.args.image.now in
    let there = ref_there i c.has_rows.ensures c.args.n c.requires in
    subst (λ w. IsSome (name_in i w)) (sym (c.row-row.ensures.columns 2)) (is_some_from _ there.name there.named)

pub returns : goal.returns
returns c =
    let i = c.args.image.now in
    let there = ref_there i c.has_rows.ensures c.args.n c.requires in
    ref_made i c.has_rows.ensures c.args.n there _ c.name.result.now c.name-2.result.now (c.read_scope.ensures ∙ ap (scope_in i) (c.row-row.ensures.columns 0)) (c.name.ensures ∙ ap (name_in i) (c.row-row.ensures.columns 1)) (c.name-2.ensures ∙ ap (name_in i) (c.row-row.ensures.columns 2))
