use Rattle.std.proofs.Common.{◌∙◌, sym, ap, subst}
use Rattle.std.specs.Prelude.{IsSome}
use Rattle.msspot_read.specs.Rows.{text_in}
use Rattle.tiny_rows.specs.Rows.{name_in}
use Rattle.tiny_members.proofs.RowLaws.{is_some_from, field_ref_there, field_ref_made}
use Rattle.tiny_members.proofs.references.read_field_ref.Goals as goal

pub text-requires : goal.text-requires
text-requires c =
    let i = c.args.image.now in
    let there = field_ref_there i c.has_rows.ensures c.args.n c.requires in
    subst (λ w. IsSome (name_in i w)) (sym (c.row-row.ensures.columns 1)) (is_some_from _ there.read.name there.read.named)

pub sig-requires : goal.sig-requires
sig-requires c =
    let i = c.args.image.now in
    let there = field_ref_there i c.has_rows.ensures c.args.n c.requires in
    subst (λ w. IsSome (text_in i 1 w)) (sym (c.row-row.ensures.columns 2)) (is_some_from _ there.read.bytes there.read.signed)

pub returns : goal.returns
returns c =
    let i = c.args.image.now in
    let column = c.row-row.ensures.columns in
    field_ref_made i c.has_rows.ensures c.args.n (field_ref_there i c.has_rows.ensures c.args.n c.requires) _ c.text.result.now c.sig.result.now (column 0) (c.text.ensures ∙ ap (name_in i) (column 1)) (c.sig.ensures ∙ ap (text_in i 1) (column 2))
