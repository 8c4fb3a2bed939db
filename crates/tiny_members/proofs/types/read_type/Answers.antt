use Rattle.std.proofs.Common.{◌∙◌, sym, ap, subst}
use Rattle.std.specs.Prelude.{IsSome}
use Rattle.tiny_rows.specs.Rows.{name_in}
use Rattle.tiny_members.proofs.RowLaws.{is_some_from, type_there, type_made}
use Rattle.tiny_members.proofs.types.read_type.Goals as goal

pub text-requires : goal.text-requires
text-requires c =
    let i = c.args.image.now in
    let there = type_there i c.has_rows.ensures c.args.n c.requires in
    subst (λ w. IsSome (name_in i w)) (sym (c.row-row.ensures.columns 0)) (is_some_from _ there.read.namespace there.read.spaced)

pub text-requires-2 : goal.text-requires-2
text-requires-2 c =
    let i = c.args.image.now in
    let there = type_there i c.has_rows.ensures c.args.n c.requires in
    subst (λ w. IsSome (name_in i w)) (sym (c.row-row.ensures.columns 1)) (is_some_from _ there.read.name there.read.named)

pub returns : goal.returns
returns c =
    let i = c.args.image.now in
    let there = type_there i c.has_rows.ensures c.args.n c.requires in
    let column = c.row-row.ensures.columns in
    type_made i c.has_rows.ensures c.args.n there c.text.result.now c.text-2.result.now _ _ _ _ _ _ _ _ _ _ _ _ _ _ _
    (c.text.ensures ∙ ap (name_in i) (column 0)) (c.text-2.ensures ∙ ap (name_in i) (column 1)) (column 2) (column 3) (column 4) (column 5) (column 6) (column 7) (column 8) (column 9) (column 10)
    c.row_or_none.ensures c.token_or_none.ensures c.read_kind.ensures c.has_bit.ensures c.has_bit-2.ensures c.has_bit-3.ensures
