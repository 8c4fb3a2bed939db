use Rattle.std.proofs.Common.{sym, ◌∙◌}
use Rattle.tiny_ram.specs.Memory.{with_frames}
use Rattle.memory_states.specs.Told.{Told, told}
use Rattle.tiny_except.proofs.Tops.{top_is}
use Rattle.tiny_except.proofs.unwinding.land.Goals as goal
use Rattle.tiny_except.proofs.Walks.{roomy}
use Rattle.tiny_except.proofs.Tops.{first_of, no_first}
use Rattle.tiny_except.proofs.Landings as landings

pub returns-then-frame-eq0 : goal.returns-then-frame-eq0
returns-then-frame-eq0 g c = λ m k.
    let t : Told = told (g.S.Subclass.sub c.args.types.now) (g.S.Subclass.clauses c.args.types.now) in
    let w = c.loop-passed.invariant m k in
    let top = c.top-frame.ensures (with_frames m w.left) w.keeps in
    landings.none_left t c.args.class m c.args.ended c.loop-passed.ram c.loop-passed.ended c.loop-passed.passed w (no_first m.room w.left c.top-frame.result top c.if-frame-eq0.true)

pub returns-then-is_some : goal.returns-then-is_some
returns-then-is_some g c = λ m k.
    let t : Told = told (g.S.Subclass.sub c.args.types.now) (g.S.Subclass.clauses c.args.types.now) in
    let w = c.loop-passed.invariant m k in
    let top = c.top-frame.ensures (with_frames m w.left) w.keeps in
    let n = first_of m.room w.left c.top-frame.result top c.if-frame-eq0.false in
    let is = top_is (with_frames m w.left) c.top-frame.result n.frame n.callers n.is top in
    let found = c.stop-found.ensures (with_frames m w.left) n.frame w.keeps is in
    landings.stops_by t c.args.class m c.args.ended c.loop-passed.ram c.loop-passed.ended c.loop-passed.passed w n.frame n.callers c.stop-found.result n.is found (sym c.is_some.ensures ∙ c.if-is_some.true)

pub loop-passed-preserved : goal.loop-passed-preserved
loop-passed-preserved g c = λ m k.
    let t : Told = told (g.S.Subclass.sub c.args.types.now) (g.S.Subclass.clauses c.args.types.now) in
    let w = c.loop-passed.invariant m k in
    let top = c.top-frame.ensures (with_frames m w.left) w.keeps in
    let n = first_of m.room w.left c.top-frame.result top c.if-frame-eq0.false in
    let is = top_is (with_frames m w.left) c.top-frame.result n.frame n.callers n.is top in
    let found = c.stop-found.ensures (with_frames m w.left) n.frame w.keeps is in
    landings.goes_by t c.args.class m c.args.ended c.loop-passed.ram c.loop-passed.ended c.loop-passed.passed w n.frame n.callers c.stop-found.result c.end_frame.new.self n.is found (sym c.is_some.ensures ∙ c.if-is_some.false) (c.end_frame.ensures (with_frames m w.left) w.keeps)

pub returns : goal.returns
returns g c = λ m k.
    let t : Told = told (g.S.Subclass.sub c.args.types.now) (g.S.Subclass.clauses c.args.types.now) in
    absurd (landings.too_far t c.args.class m c.args.ended c.loop-passed.ram c.loop-passed.ended c.loop-passed.passed (roomy c.args.ram.now m k) (c.loop-passed.invariant m k) c.loop-passed-test.false)
