use Rattle.std.proofs.Common.{◌∙◌, sym, ap, subst}
use Rattle.std.specs.Prelude.{IsSome}
use Rattle.tiny_rows.specs.Rows.{name_in, row_word}
use Rattle.tiny_rows.proofs.RowLaws.{is_some_from, type_there, type_made}
use Rattle.tiny_rows.proofs.types.read_type_name.Goals as goal

pub name-requires : goal.name-requires
name-requires c =
    let i = c.args.image.now in
    let there = type_there i c.has_rows.ensures c.args.n c.requires in
    subst (λ w. IsSome (name_in i w)) (sym (c.row-row.ensures.columns 0)) (is_some_from _ there.namespace there.spaced)

pub name-requires-2 : goal.name-requires-2
name-requires-2 c =
    let i = c.args.image.now in
    let there = type_there i c.has_rows.ensures c.args.n c.requires in
    subst (λ w. IsSome (name_in i w)) (sym (c.row-row.ensures.columns 1)) (is_some_from _ there.name there.named)

pub returns : goal.returns
returns c =
    let i = c.args.image.now in
    let there = type_there i c.has_rows.ensures c.args.n c.requires in
    type_made i c.has_rows.ensures c.args.n there _ c.name.result.now c.name-2.result.now (c.row_or_none.ensures ∙ ap row_word (c.row-row.ensures.columns 2)) (c.name.ensures ∙ ap (name_in i) (c.row-row.ensures.columns 0)) (c.name-2.ensures ∙ ap (name_in i) (c.row-row.ensures.columns 1))
