use Rattle.std.proofs.Common.{subst}
use Rattle.tiny_ram.specs.Memory.{RamFrame, put_in_frame}
use Rattle.tiny_ram.specs.Region.{Keeps}
use Rattle.tiny_except.proofs.Tops.{slot_takes, slot_put}
use Rattle.frame_parts.proofs.parts.put_place.Goals as goal

pub returns : goal.returns
returns c = λ m f k e l.
    subst (λ (g : RamFrame). Keeps c.put.new.self (put_in_frame m c.args.frame g)) (slot_put f c.args.index c.args.value l)
    (c.put.ensures.frame m f k e (slot_takes f c.args.index c.args.value l))
