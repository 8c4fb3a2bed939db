use Rattle.std.proofs.Common.{◌-◌, ◌+◌, ◌<◌, length, arith}
use Rattle.code_shrink.specs.Shrunk.{pieces_of}
use Rattle.code_shrink.specs.Starts.{starts_from}
use Rattle.code_shrink.proofs.OnSteps.{a_step, listed}
use Rattle.code_shrink.proofs.starts.starts.Goals as goal

pub short_size-short-requires : goal.short_size-short-requires
short_size-short-requires c = (a_step c.args.code.now c.walk.long c.in-Some.step (λ k. (c.type_inv.code k).fits) c.in-Some.ensures.some).saves

pub overflow_add-short : goal.overflow_add-short
overflow_add-short c =
    let o = a_step c.args.code.now c.walk.long c.in-Some.step (λ k. (c.type_inv.code k).fits) c.in-Some.ensures.some in
    record { fits = omega (arith, o.inside, c.requires, c.walk.invariant.small, c.short_size-short.ensures) }

pub overflow_add-long : goal.overflow_add-long
overflow_add-long c =
    let o = a_step c.args.code.now c.walk.long c.in-Some.step (λ k. (c.type_inv.code k).fits) c.in-Some.ensures.some in
    record { fits = omega (arith, o.inside, c.requires) }

pub walk-smaller : goal.walk-smaller
walk-smaller c =
    let o = a_step c.args.code.now c.walk.long c.in-Some.step (λ k. (c.type_inv.code k).fits) c.in-Some.ensures.some in
    let less : length c.args.code.now - (c.walk.long + c.in-Some.step.instr.length) < length c.args.code.now - c.walk.long = omega (arith, o.some, o.inside) in
    less

pub walk-preserved : goal.walk-preserved
walk-preserved c =
    let o = a_step c.args.code.now c.walk.long c.in-Some.step (λ k. (c.type_inv.code k).fits) c.in-Some.ensures.some in
    let more = listed c.args.code.now c.walk.long c.in-Some.step o c.walk.starts.items (starts_from 0 0 (pieces_of c.args.code.now)) c.walk.short c.walk.invariant.all in
    record {
      inside = o.inside;
      small = omega (arith, c.short_size-short.ensures, c.walk.invariant.small);
      all = rw (c.in_ok-push.ensures.items, c.short_size-short.ensures) more;
    }
