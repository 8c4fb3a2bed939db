use Rattle.std.proofs.lemmas.Int.{to_z-of_z}
use Rattle.std.specs.Int.{w64}
use mir.Val.{SFits}
use Rattle.tiny_ops.proofs.longs.arithmetic_of.Goals as goal

pub returns-in-MultiplyChecked : goal.returns-in-MultiplyChecked
returns-in-MultiplyChecked c l =
    let x : SFits w64 c.args.x = c.ranges.x in
    let y : SFits w64 c.args.y = c.ranges.y in
    let h = simp to_z-of_z at c.multiplied.ensures l in
    rw c.in-MultiplyChecked.is h
