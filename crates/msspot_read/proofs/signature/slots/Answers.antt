use Rattle.msspot_read.specs.After.{after_slots}
use Rattle.msspot_read.proofs.SigLaws.{slots_stop, slots_go_on, slots_done}
use Rattle.msspot_read.proofs.signature.slots.Goals as goal

pub returns-in-None : goal.returns-in-None
returns-in-None c =
    slots_stop c.args.parts.now c.args.slot c.args.count c.loop.counter c.loop.rest.now (after_slots c.args.parts.now c.args.slot c.args.count c.args.bytes.now) c.loop-test.true c.in-None.ensures c.loop.invariant

pub loop-preserved : goal.loop-preserved
loop-preserved c =
    slots_go_on c.args.parts.now c.args.slot c.args.count c.loop.counter c.loop.rest.now c.in-Some.after.now (after_slots c.args.parts.now c.args.slot c.args.count c.args.bytes.now) c.loop-test.true c.in-Some.ensures c.loop.invariant

pub returns : goal.returns
returns c = slots_done c.args.parts.now c.args.slot c.args.count c.loop.counter c.loop.rest.now (after_slots c.args.parts.now c.args.slot c.args.count c.args.bytes.now) c.loop-test.false c.loop.invariant
