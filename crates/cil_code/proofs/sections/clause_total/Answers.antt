use Rattle.std.proofs.Common.{sym, arith}
use Rattle.cil_code.proofs.Unrolled.{total_none, total_last, total_more, twelve_each, not_true, not_false}
use Rattle.cil_code.proofs.sections.clause_total.Goals as goal

pub returns-in_err-section : goal.returns-in_err-section
returns-in_err-section c = rw c.from_residual.ensures (total_none c.sections.total c.sections.rest.now c.args.sections.now (sym c.in_err-section.ensures.section) c.sections.invariant.0)

pub overflow_cast-total : goal.overflow_cast-total
overflow_cast-total c =
    let s = c.in_ok-section.section in
    omega (arith, twelve_each s.form s.count, c.in_ok-section.ensures.filled, c.in_ok-section.ensures.fits)

pub overflow_add-total : goal.overflow_add-total
overflow_add-total c =
    let s = c.in_ok-section.section in
    omega (arith, twelve_each s.form s.count, c.in_ok-section.ensures.filled, c.in_ok-section.ensures.fits)

pub returns-then-not-section : goal.returns-then-not-section
returns-then-not-section c =
    let s = c.in_ok-section.section in
    total_last c.sections.total c.sections.rest.now c.args.sections.now s (sym c.in_ok-section.ensures.section) (not_true s.goes_on c.if-not-section.true) c.sections.invariant.0

pub sections-preserved : goal.sections-preserved
sections-preserved c =
    let s = c.in_ok-section.section in
    let more = total_more c.sections.total c.sections.rest.now c.args.sections.now s (sym c.in_ok-section.ensures.section) (not_false s.goes_on c.if-not-section.false) c.sections.invariant.0 in
    (rw c.split_at.ensures.back more, omega (arith, twelve_each s.form s.count, c.in_ok-section.ensures.filled, c.in_ok-section.ensures.fits))
