use Rattle.std.proofs.Common.{◌∙◌, sym, ap, subst}
use Rattle.std.specs.Prelude.{IsSome}
use Rattle.msspot_read.specs.Rows.{text_in}
use Rattle.bound_lines.proofs.SpecLaws.{spec_text, spec_made}
use Rattle.bound_lines.proofs.types.read_spec.Goals as goal

pub sig-requires : goal.sig-requires
sig-requires c = let i = c.args.image.now in subst (λ w. IsSome (text_in i 1 w)) (sym (c.row-columns.ensures.columns 0)) (spec_text i c.has_rows.ensures c.args.row c.requires)

pub returns : goal.returns
returns c = let i = c.args.image.now in spec_made i c.has_rows.ensures c.args.row c.sig.result.now c.requires (c.sig.ensures ∙ ap (text_in i 1) (c.row-columns.ensures.columns 0))
