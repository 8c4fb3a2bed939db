use Rattle.std.proofs.lemmas.Result.{err_from_is_err_and}
use Rattle.cil_sig.specs.Places.{behind_slots}
use Rattle.cil_sig.proofs.Suffixes.{skip_ends, skip_goes, skip_done}
use Rattle.cil_sig.proofs.places.behind_types.Goals as goal

pub returns-in_err-read : goal.returns-in_err-read
returns-in_err-read c =
    let total = behind_slots c.args.slot c.args.count c.args.bytes.now in
    let p = err_from_is_err_and c.from_residual.result c.from_residual.ensures.1 in
    rw (p.1, p.2) (skip_ends c.args.slot c.args.count c.loop.counter c.loop.rest.now c.in_err-read.field-0.0.left total c.loop-test.true c.in_err-read.ensures c.loop.invariant)

pub loop-preserved : goal.loop-preserved
loop-preserved c =
    let total = behind_slots c.args.slot c.args.count c.args.bytes.now in
    skip_goes c.args.slot c.args.count c.loop.counter c.loop.rest.now (c.in_ok-read.read.0, c.in_ok-read.read.1.now) total c.loop-test.true c.in_ok-read.ensures c.loop.invariant

pub returns : goal.returns
returns c = skip_done c.args.slot c.args.count c.loop.counter c.loop.rest.now (behind_slots c.args.slot c.args.count c.args.bytes.now) c.loop-test.false c.loop.invariant
