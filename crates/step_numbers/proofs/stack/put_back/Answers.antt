use Rattle.std.proofs.Common.{Bool, ◌∙◌, subst}
use Rattle.std.specs.Prelude.{slice_index}
use Rattle.std.proofs.lemmas.Bool.{lt-ltb}
use Rattle.tiny_ram.specs.Memory.{pushed}
use Rattle.tiny_ram.specs.Region.{Done}
use Rattle.step_numbers.proofs.stack.put_back.Goals as goal

pub returns : goal.returns
returns c =
    λ m f fs keeps e room.
    subst (λ (b : Bool). Done c.args.ram.now c.push.new.self m (pushed f c.args.value) fs b) (c.push.ensures.room m f fs keeps e ∙ lt-ltb f.depth (slice_index f.sizes 2) room) (c.push.ensures.done m f fs keeps e)
