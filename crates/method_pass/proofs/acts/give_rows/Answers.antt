use Rattle.std.proofs.Common.{◌<◌, length, arith}
use Rattle.pass_steps.specs.Seen.{rowed}
use Rattle.method_pass.proofs.RowsLaws.{given_next}
use Rattle.method_pass.proofs.acts.give_rows.Goals as goal

pub loop-of-preserved : goal.loop-of-preserved
loop-of-preserved c =
    let within : c.loop-of.of-index < length c.deref_mut-of-items.result.now = omega (arith, c.loop-of-test.true) in
    given_next rowed _ c.deref_mut-of-items.result.now c.loop-of.of-items c.loop-of.of-index c.rowed.result c.loop-of.invariant within c.rowed.ensures
