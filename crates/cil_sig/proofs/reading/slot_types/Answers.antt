use Rattle.std.proofs.lemmas.Result.{err_from_is_err_and}
use Rattle.cil_sig.specs.Reading.{slots_at}
use Rattle.cil_sig.proofs.Loop.{goes_on, ends, is_done}
use Rattle.cil_sig.proofs.reading.slot_types.Goals as goal

pub returns-in_err-of : goal.returns-in_err-of
returns-in_err-of c =
    let p = err_from_is_err_and c.from_residual.result c.from_residual.ensures.1 in
    rw (p.1, p.2) (ends c.args.slot c.loop.types.items c.args.count c.loop.counter c.loop.rest.now c.in_err-of.field-0.0.left (slots_at c.args.slot c.args.count c.args.bytes.now) c.loop-test.true c.in_err-of.ensures c.loop.invariant)

pub loop-preserved : goal.loop-preserved
loop-preserved c =
    rw c.in_ok-push.ensures.items (goes_on c.args.slot c.loop.types.items c.args.count c.loop.counter c.loop.rest.now c.in_ok-of.of c.in_ok-of.after.now (slots_at c.args.slot c.args.count c.args.bytes.now) c.loop-test.true c.in_ok-of.ensures c.loop.invariant)

pub returns : goal.returns
returns c = is_done c.args.slot c.loop.types.items c.args.count c.loop.counter c.loop.rest.now (slots_at c.args.slot c.args.count c.args.bytes.now) c.loop-test.false c.loop.invariant
