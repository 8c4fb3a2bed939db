use Rattle.std.proofs.Common.{◌≡◌, ◌<◌, length, sym, ◌∙◌, arith}
use Rattle.forward_pass.proofs.JoinLaws.{fit_other, fit_fails}
use Rattle.forward_pass.proofs.join.misfit.Goals as goal

pub returns-then-there-stack : goal.returns-then-there-stack
returns-then-there-stack g c = λ seen l agrees. sym (fit_other seen l c.args.stack.now c.args.there.now (λ e. c.if-there-stack.true (sym e)))

pub returns-then-not-branch : goal.returns-then-not-branch
returns-then-not-branch g c =
    λ seen l agrees.
    let same : length c.args.stack.now ≡ length c.args.there.now = omega arith in
    let within : c.loop-place.place < length c.args.there.now = omega arith in
    sym (fit_fails seen l (g.L.Lattice.is_assignable c.args.lattice.now) (g.L.Lattice.merges c.args.lattice.now) agrees c.args.stack.now c.args.there.now c.loop-place.place _ _ same within (sym c.in_ok-assignable.ensures ∙ c.if-not-branch.true) (c.loop-place.invariant.fits seen l agrees))
