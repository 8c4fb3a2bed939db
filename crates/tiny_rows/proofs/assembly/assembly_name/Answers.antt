use Rattle.std.proofs.Common.{◌∙◌, sym, ap, subst}
use Rattle.std.specs.Prelude.{IsSome}
use Rattle.tiny_rows.specs.Rows.{name_in}
use Rattle.tiny_rows.proofs.RowLaws.{own_text, own_is}
use Rattle.tiny_rows.proofs.assembly.assembly_name.Goals as goal

pub name-requires-2 : goal.name-requires-2
name-requires-2 c = subst (λ at. IsSome (name_in c.args.image.now at)) (sym c.name.ensures) (own_text c.args.image.now c.has_rows.ensures)

pub returns : goal.returns
returns c =
    own_is c.args.image.now c.has_rows.ensures c.name-2.result.now _ (c.name-2.ensures ∙ ap (name_in c.args.image.now) c.name.ensures) (c.version_of.ensures ∙ c.version.ensures)
