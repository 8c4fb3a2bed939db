use Rattle.std.proofs.Common.{◌∙◌, sym, ap, subst}
use Rattle.std.specs.Prelude.{IsSome}
use Rattle.tiny_rows.specs.Rows.{name_in}
use Rattle.tiny_rows.proofs.RowLaws.{is_some_from, assembly_there, assembly_made}
use Rattle.tiny_rows.proofs.assembly.read_assembly_ref.Goals as goal

pub name-requires : goal.name-requires
name-requires c =
    let i = c.args.image.now in
    let there = assembly_there i c.has_rows.ensures c.args.n c.requires in
    subst (λ w. IsSome (name_in i w)) (sym (c.row-row.ensures.columns 0)) (is_some_from _ there.name there.named)

pub returns : goal.returns
returns c =
    let i = c.args.image.now in
    let there = assembly_there i c.has_rows.ensures c.args.n c.requires in
    assembly_made i c.has_rows.ensures c.args.n there c.row-row.ensures.width c.name.result.now (c.name.ensures ∙ ap (name_in i) (c.row-row.ensures.columns 0)) _ _ _ _
    (c.row-row.ensures.columns 1) (c.row-row.ensures.columns 2) (c.row-row.ensures.columns 3) (c.row-row.ensures.columns 4)
