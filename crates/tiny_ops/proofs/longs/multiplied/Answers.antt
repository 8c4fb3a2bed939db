use Rattle.std.proofs.Common.{rules, arith, ◌*ℤ◌, ◌^◌, lit<}
use Rattle.std.proofs.lemmas.Int.{ints, to_z-of_z, fits_signed_mul}
use Rattle.std.specs.Int.{w64, w128}
use mir.Val.{SFits}
use Rattle.tiny_ops.proofs.longs.multiplied.Goals as goal

pub returns-in-Signed : goal.returns-in-Signed
returns-in-Signed c l =
    let x64 : SFits w64 c.args.x = c.ranges.x in
    let y64 : SFits w64 c.args.y = c.ranges.y in
    let x : SFits w128 c.args.x = search rules in
    let y : SFits w128 c.args.y = search rules in
    let fits : SFits w128 (c.args.x *ℤ c.args.y) =
    fits_signed_mul w128 c.args.x c.args.y (2 ^ 63) (2 ^ 63) (omega (arith, ints)) (omega (arith, ints)) (lit< tt) in
    let h = simp to_z-of_z at c.fitting.ensures l in
    rw c.in-Signed.is h

pub returns-in-Unsigned : goal.returns-in-Unsigned
returns-in-Unsigned c l =
    let x : SFits w64 c.args.x = c.ranges.x in
    let y : SFits w64 c.args.y = c.ranges.y in
    let a = simp to_z-of_z at c.cast_unsigned.ensures in
    let b = simp to_z-of_z at c.cast_unsigned-in-Unsigned.ensures in
    let h = simp (a, b) at c.product.ensures l in
    rw c.in-Unsigned.is h
