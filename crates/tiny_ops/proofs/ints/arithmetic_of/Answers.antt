use Rattle.std.proofs.lemmas.Int.{to_z-of_z}
use Rattle.std.specs.Int.{w32}
use mir.Val.{SFits}
use Rattle.tiny_ops.proofs.ints.arithmetic_of.Goals as goal

pub returns-in-MultiplyChecked : goal.returns-in-MultiplyChecked
returns-in-MultiplyChecked c l =
    let x : SFits w32 c.args.x = c.ranges.x in
    let y : SFits w32 c.args.y = c.ranges.y in
    let h = simp to_z-of_z at c.multiplied.ensures l in
    rw c.in-MultiplyChecked.is h
