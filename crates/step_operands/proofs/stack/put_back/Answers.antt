use Rattle.std.proofs.Common.{◌∷◌, ◌-◌, ◌<◌, Bool, refl, ◌∙◌, subst, arith}
use Rattle.std.specs.Prelude.{slice_index}
use Rattle.std.proofs.lemmas.Bool.{lt-ltb}
use Rattle.tiny_ram.specs.Memory.{RamFrame, with_frames, popped, pushed}
use Rattle.tiny_ram.specs.Region.{Keeps, Done}
use Rattle.step_operands.proofs.Taking.{pushed_again}
use Rattle.step_operands.proofs.stack.put_back.Goals as goal

pub returns : goal.returns
returns c =
    λ m h fs t keeps.
    let less = with_frames m (popped h ∷ fs) in
    let some = t.some in
    let fits = t.fits in
    let room : h.depth - 1 < slice_index h.sizes 2 = omega (arith, some, fits) in
    let done = subst (λ (b : Bool). Done c.args.ram.now c.push.new.self less (pushed (popped h) c.args.value) fs b) (c.push.ensures.room less (popped h) fs keeps refl ∙ lt-ltb (h.depth - 1) (slice_index h.sizes 2) room) (c.push.ensures.done less (popped h) fs keeps refl) in
    subst (λ (z : RamFrame). Keeps c.push.new.self (with_frames m (z ∷ fs))) (pushed_again h c.args.value t) done
