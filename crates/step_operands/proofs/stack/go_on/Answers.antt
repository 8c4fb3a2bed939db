use Rattle.std.proofs.Common.{◌∷◌, refl}
use Rattle.tiny_ram.specs.Memory.{with_frames}
use Rattle.machine.specs.Throw.{goes}
use Rattle.step_ends.specs.declared.acted.Acted.TheVariants.{Done}
use Rattle.step_ends.proofs.Going.{moved}
use Rattle.step_operands.specs.Below.{stacked}
use Rattle.step_operands.proofs.Ending.{same_goes, moves_so, went}
use Rattle.step_operands.proofs.stack.go_on.Goals as goal

pub returns : goal.returns
returns c =
    λ p outer m s fs gs h g rest b.
    let u = c.go_to.new.self in
    let n = c.args.next in
    let less = with_frames m (h ∷ fs) in
    moves_so p outer s u m.room (goes p s (stacked g rest) gs n rest) (goes p s g gs n rest) Done (same_goes p s g gs rest n rest)
    (went p outer u m s fs gs c.args.ram.now h (stacked g rest) b n c.ranges.next.fits (moved u less h fs n c.cast_signed.result c.ranges.next.fits c.cast_signed.ensures (c.go_to.ensures less h fs b.keeps refl)))
