use Rattle.std.proofs.Common.{ap}
use Rattle.image_bytes.specs.Layout.{Image}
use Rattle.msspot_read.specs.Places.{image_at}
use Rattle.msspot_read.proofs.parts.Parts.version.Goals as goal

pub returns : goal.returns
unfolding image_at
returns c = rw (c.u16_at.ensures, c.u16_at-2.ensures, c.u16_at-3.ensures, c.u16_at-4.ensures) (ap (λ (i : Image). i.version) c.self.view_is)
