use Rattle.std.proofs.Common.{◌≡◌, ◌<◌, length, sym, subst, arith}
use Rattle.forward_pass.proofs.JoinLaws.{merge_other, merge_fails}
use Rattle.forward_pass.proofs.join.merged.Goals as goal

pub returns-then-there-stack : goal.returns-then-there-stack
returns-then-there-stack g c = λ seen l agrees. sym (merge_other seen l c.args.there.now c.args.stack.now c.if-there-stack.true)

pub returns-in-None : goal.returns-in-None
returns-in-None g c =
    λ seen l agrees.
    let same : length c.args.there.now ≡ length c.args.stack.now = omega arith in
    let within : c.loop-place.place < length c.args.stack.now = omega arith in
    sym (merge_fails seen l (g.L.Lattice.is_assignable c.args.lattice.now) (g.L.Lattice.merges c.args.lattice.now) agrees c.args.there.now c.args.stack.now c.loop-place.both.items c.loop-place.place _ _ same within (subst (g.L.Lattice.merges c.args.lattice.now _ _) c.in-None.is c.in_ok-of.ensures) (c.loop-place.invariant.merged seen l agrees))
