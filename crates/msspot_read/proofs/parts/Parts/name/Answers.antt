use Rattle.std.proofs.Common.{◌∙◌, ap}
use Rattle.image_bytes.specs.Layout.{Image}
use Rattle.msspot_read.specs.Places.{image_at}
use Rattle.msspot_read.proofs.parts.Parts.name.Goals as goal

pub returns : goal.returns
unfolding image_at
returns c = c.u16_at.ensures ∙ ap (λ (i : Image). i.name) c.self.view_is
