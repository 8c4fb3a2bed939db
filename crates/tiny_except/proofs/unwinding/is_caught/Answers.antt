use Rattle.std.proofs.Common.{◌≡◌, None, sym, ap, ◌∙◌}
use Rattle.memory_states.specs.Told.{Told, told}
use Rattle.tiny_except.specs.declared.clauses.Goal.TheVariants as kind
use Rattle.tiny_except.specs.Unwinding.{stop_in}
use Rattle.tiny_except.proofs.unwinding.is_caught.Goals as goal
use Rattle.std.specs.Prelude.{is_some}
use Rattle.tiny_except.proofs.Walks.{roomy}
use Rattle.tiny_except.proofs.Caught as caught

pub loop-passed-init : goal.loop-passed-init
loop-passed-init g c = λ m k.
    let t : Told = told (g.S.Subclass.sub c.args.types.now) (g.S.Subclass.clauses c.args.types.now) in
    caught.begins t c.args.class m c.top-frame.result (c.top-frame.ensures m k)

pub returns-then-frame-eq0 : goal.returns-then-frame-eq0
returns-then-frame-eq0 g c = λ m k.
    let t : Told = told (g.S.Subclass.sub c.args.types.now) (g.S.Subclass.clauses c.args.types.now) in
    caught.at_end t c.args.class m c.loop-passed.frame c.loop-passed.passed (c.loop-passed.invariant m k) c.if-frame-eq0.true

pub returns-then-is_some : goal.returns-then-is_some
returns-then-is_some g c = λ m k.
    let t : Told = told (g.S.Subclass.sub c.args.types.now) (g.S.Subclass.clauses c.args.types.now) in
    let w = c.loop-passed.invariant m k in
    let n = caught.now t c.args.class m c.loop-passed.frame c.loop-passed.passed w c.if-frame-eq0.false in
    let is = caught.is_frame t c.args.class m c.loop-passed.frame c.loop-passed.passed w c.if-frame-eq0.false n.frame n.callers n.is in
    let test : is_some (stop_in t (kind.Catch c.args.class) None n.frame) ≡ c.is_some.result = ap is_some (sym (c.stop.ensures m n.frame k is)) ∙ sym c.is_some.ensures in
    caught.found t c.args.class m c.loop-passed.frame c.loop-passed.passed w c.if-frame-eq0.false n.frame n.callers n.is (test ∙ c.if-is_some.true)

pub returns-then-is_initialiser : goal.returns-then-is_initialiser
returns-then-is_initialiser g c = λ m k.
    let t : Told = told (g.S.Subclass.sub c.args.types.now) (g.S.Subclass.clauses c.args.types.now) in
    let w = c.loop-passed.invariant m k in
    let n = caught.now t c.args.class m c.loop-passed.frame c.loop-passed.passed w c.if-frame-eq0.false in
    let is = caught.is_frame t c.args.class m c.loop-passed.frame c.loop-passed.passed w c.if-frame-eq0.false n.frame n.callers n.is in
    let test : is_some (stop_in t (kind.Catch c.args.class) None n.frame) ≡ c.is_some.result = ap is_some (sym (c.stop.ensures m n.frame k is)) ∙ sym c.is_some.ensures in
    caught.stopped t c.args.class m c.loop-passed.frame c.loop-passed.passed w c.if-frame-eq0.false n.frame n.callers n.is (test ∙ c.if-is_some.false) (sym (c.is_initialiser.ensures m n.frame k is) ∙ c.if-is_initialiser.true)

pub loop-passed-preserved : goal.loop-passed-preserved
loop-passed-preserved g c = λ m k.
    let t : Told = told (g.S.Subclass.sub c.args.types.now) (g.S.Subclass.clauses c.args.types.now) in
    let w = c.loop-passed.invariant m k in
    let n = caught.now t c.args.class m c.loop-passed.frame c.loop-passed.passed w c.if-frame-eq0.false in
    let is = caught.is_frame t c.args.class m c.loop-passed.frame c.loop-passed.passed w c.if-frame-eq0.false n.frame n.callers n.is in
    let test : is_some (stop_in t (kind.Catch c.args.class) None n.frame) ≡ c.is_some.result = ap is_some (sym (c.stop.ensures m n.frame k is)) ∙ sym c.is_some.ensures in
    caught.goes t c.args.class m c.loop-passed.frame c.loop-passed.passed w c.if-frame-eq0.false n.frame n.callers n.is (test ∙ c.if-is_some.false) (sym (c.is_initialiser.ensures m n.frame k is) ∙ c.if-is_initialiser.false) (roomy c.args.ram.now m k) c.caller-frame.result (c.caller-frame.ensures m n.frame k is)

pub returns : goal.returns
returns g c = λ m k.
    let t : Told = told (g.S.Subclass.sub c.args.types.now) (g.S.Subclass.clauses c.args.types.now) in
    absurd (caught.too_far t c.args.class m c.loop-passed.frame c.loop-passed.passed (roomy c.args.ram.now m k) (c.loop-passed.invariant m k) c.loop-passed-test.false)
