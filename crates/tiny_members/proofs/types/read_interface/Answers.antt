use Rattle.std.proofs.Common.{◌∙◌, sym, ap, Some}
use Rattle.image_form.specs.Signatures.{type_token}
use Rattle.tiny_members.proofs.RowLaws.{interface_there}
use Rattle.tiny_members.proofs.types.read_interface.Goals as goal

pub returns : goal.returns
returns c = ap (λ w. Some (type_token w)) (c.row-row.ensures.columns 0) ∙ sym (interface_there c.args.image.now c.args.n c.requires)
