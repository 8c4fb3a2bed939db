use Rattle.std.proofs.Common.{ap, ◌∙◌}
use Rattle.std.specs.Prelude.{sum}
use Rattle.tiny_ram.specs.Memory.{part_value, shown}
use Rattle.tiny_except.proofs.Tops.{top_is, slot_part}
use Rattle.step_places.proofs.Rooms.{variable_inside}
use Rattle.step_places.proofs.places.far_value.Goals as goal

pub returns : goal.returns
returns c =
    λ m f fs keeps e l.
    c.get.ensures.frame m f keeps (top_is m c.top-thing.result f fs e (c.top-thing.ensures m keeps))
    ∙ ap (λ q. shown c.args.unput (part_value f c.args.index q)) (slot_part (sum f.sizes) c.args.index (variable_inside f c.args.index l))
