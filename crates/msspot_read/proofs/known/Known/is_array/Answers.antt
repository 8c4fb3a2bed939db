use Rattle.std.proofs.Common.{◌∙◌, ap, [], ◌∷◌}
use Rattle.std.specs.Prelude.{is_some}
use Rattle.image_form.specs.Form.{spec_at}
use Rattle.msspot_read.specs.Held.{held_of}
use Rattle.msspot_read.proofs.KnownLaws.{array_known}
use Rattle.msspot_read.proofs.known.Known.is_array.Goals as goal

pub returns : goal.returns
returns c =
    let i = c.self.inside.parts.now in
    c.has.ensures ∙ c.self.invariant.arrays c.args.at ∙ array_known i c.self.invariant.texts c.args.at ∙ ap (λ j. is_some (spec_at (held_of j) (c.args.at ∷ []))) c.self.view_is
