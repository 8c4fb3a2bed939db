use Rattle.std.proofs.Common.{true, refl}
use Rattle.tiny_ram.specs.Memory.{RamFrame, fresh_frame, with_frame}
use Rattle.tiny_except.proofs.Tops.{top_is, put_top}
use Rattle.step_initialisers.proofs.Initialised.{no_code, takes_some, spent, starts}
use Rattle.step_initialisers.proofs.initialising.start_class.Goals as goal

pub returns-then-not-callee : goal.returns-then-not-callee
returns-then-not-callee c = λ p outer m s i k h is. no_code p s i c.args.callee is c.if-not-callee.true

pub returns-then-callee-ne0 : goal.returns-then-callee-ne0
returns-then-callee-ne0 c = λ p outer m s i k h is. takes_some p s i c.args.callee is c.if-not-callee.false c.if-callee-ne0.true

pub returns-in-Err : goal.returns-in-Err
returns-in-Err c = λ p outer m s i k h is. spent p s i c.args.callee is outer m h c.if-not-callee.false c.if-callee-ne0.false (c.in-Err.ensures m k).0

pub returns-in-Ok : goal.returns-in-Ok
returns-in-Ok c = λ p outer m s i k h is.
    let x : RamFrame = fresh_frame c.args.callee.method c.args.callee.sizes in
    let made = c.in-Ok.ensures m k in
    let u = c.mark_initialiser.new.ram in
    starts p s i c.args.callee is outer m h c.if-not-callee.false c.if-callee-ne0.false u
    (put_top u (with_frame m x) c.in-Ok.frame x (record x { initialiser = true }) m.frames refl made.1
    (c.mark_initialiser.ensures (with_frame m x) x made.2 (top_is (with_frame m x) c.in-Ok.frame x m.frames refl made.1)))
