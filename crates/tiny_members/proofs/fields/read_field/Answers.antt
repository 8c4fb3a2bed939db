use Rattle.std.proofs.Common.{◌∙◌, sym, ap, subst}
use Rattle.std.specs.Prelude.{IsSome}
use Rattle.msspot_read.specs.Rows.{text_in}
use Rattle.tiny_rows.specs.Rows.{name_in}
use Rattle.tiny_members.proofs.RowLaws.{is_some_from, field_there, kind_there, field_made}
use Rattle.tiny_members.proofs.fields.read_field.Goals as goal

pub text-requires : goal.text-requires
text-requires c =
    let i = c.args.image.now in
    let there = field_there i c.has_rows.ensures c.args.n c.requires in
    subst (λ w. IsSome (name_in i w)) (sym (c.row-row.ensures.columns 0)) (is_some_from _ there.read.name there.read.named)

pub sig-requires : goal.sig-requires
sig-requires c =
    let i = c.args.image.now in
    let there = field_there i c.has_rows.ensures c.args.n c.requires in
    subst (λ w. IsSome (text_in i 1 w)) (sym (c.row-row.ensures.columns 1)) (is_some_from _ there.read.bytes there.read.signed)

pub read_kind-requires : goal.read_kind-requires
read_kind-requires c =
    let i = c.args.image.now in
    kind_there i c.has_rows.ensures c.args.n (field_there i c.has_rows.ensures c.args.n c.requires) _ _ (c.row-row.ensures.columns 2) (c.row-row.ensures.columns 3)

pub returns : goal.returns
returns c =
    let i = c.args.image.now in
    let column = c.row-row.ensures.columns in
    field_made i c.has_rows.ensures c.args.n (field_there i c.has_rows.ensures c.args.n c.requires) c.text.result.now c.sig.result.now _ _ _ (c.text.ensures ∙ ap (name_in i) (column 0)) (c.sig.ensures ∙ ap (text_in i 1) (column 1)) (column 2) (column 3) c.read_kind.ensures
