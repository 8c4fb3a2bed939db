use Rattle.std.proofs.Common.{◌≡◌, Some, sym, ap, ◌∙◌, subst}
use Rattle.memory_states.specs.Told.{Told, told}
use Rattle.tiny_except.specs.Unwinding.{ended_in}
use Rattle.tiny_except.proofs.Tops.{top_is}
use Rattle.tiny_except.proofs.unwinding.end_finally.Goals as goal
use Rattle.tiny_except.specs.Searches.{AllHaveSlots, HasSlots}
use Rattle.tiny_except.proofs.Stops.{Fits, ended_fits}
use Rattle.tiny_except.proofs.Tops.{first_of, no_first}
use Rattle.tiny_except.specs.Unwinding.{plan_by, plan_in, plan_at, ended_at}
use Rattle.tiny_except.proofs.Catches.{no_plan, plan_is, goes_on, throws_on}

pub returns-then-frame-eq0 : goal.returns-then-frame-eq0
returns-then-frame-eq0 g c = λ m k h there.
    let t : Told = told (g.S.Subclass.sub c.args.types.now) (g.S.Subclass.clauses c.args.types.now) in
    no_plan t m c.args.ram.now (ap (plan_at t) (no_first m.room m.frames c.top-frame.result (c.top-frame.ensures m k) c.if-frame-eq0.true))

pub returns-in_default : goal.returns-in_default
returns-in_default g c = λ m k h there.
    let t : Told = told (g.S.Subclass.sub c.args.types.now) (g.S.Subclass.clauses c.args.types.now) in
    let n = first_of m.room m.frames c.top-frame.result (c.top-frame.ensures m k) c.if-frame-eq0.false in
    let is = top_is m c.top-frame.result n.frame n.callers n.is (c.top-frame.ensures m k) in
    no_plan t m c.args.ram.now (ap (plan_at t) n.is ∙ ap (plan_in n.frame) (sym (c.ended.ensures m n.frame k is) ∙ c.in_default.is))

pub returns-in-NoPlan : goal.returns-in-NoPlan
returns-in-NoPlan g c = λ m k h there.
    let t : Told = told (g.S.Subclass.sub c.args.types.now) (g.S.Subclass.clauses c.args.types.now) in
    let n = first_of m.room m.frames c.top-frame.result (c.top-frame.ensures m k) c.if-frame-eq0.false in
    let is = top_is m c.top-frame.result n.frame n.callers n.is (c.top-frame.ensures m k) in
    let slots : HasSlots t n.frame = (subst (AllHaveSlots t) n.is h).0 in
    let ended : ended_in t n.frame ≡ Some c.in-Some.ended = sym (c.ended.ensures m n.frame k is) ∙ c.in-Some.is in
    let fits : Fits n.frame c.in-Some.ended = ended_fits t n.frame c.in-Some.ended slots ended in
    let plan : plan_at t m.frames ≡ c.plan_told.result = plan_is t m n.frame n.callers c.in-Some.ended n.is ended ∙ ap plan_by (sym (c.slot.ensures m n.frame k is fits.slot)) ∙ sym c.plan_told.ensures in
    let at : ended_at t m.frames ≡ Some c.in-Some.ended = ap (ended_at t) n.is ∙ ended in
    no_plan t m c.args.ram.now (plan ∙ c.in-NoPlan.is)

pub returns-in-GoingTo : goal.returns-in-GoingTo
returns-in-GoingTo g c = λ m k h there.
    let t : Told = told (g.S.Subclass.sub c.args.types.now) (g.S.Subclass.clauses c.args.types.now) in
    let n = first_of m.room m.frames c.top-frame.result (c.top-frame.ensures m k) c.if-frame-eq0.false in
    let is = top_is m c.top-frame.result n.frame n.callers n.is (c.top-frame.ensures m k) in
    let slots : HasSlots t n.frame = (subst (AllHaveSlots t) n.is h).0 in
    let ended : ended_in t n.frame ≡ Some c.in-Some.ended = sym (c.ended.ensures m n.frame k is) ∙ c.in-Some.is in
    let fits : Fits n.frame c.in-Some.ended = ended_fits t n.frame c.in-Some.ended slots ended in
    let plan : plan_at t m.frames ≡ c.plan_told.result = plan_is t m n.frame n.callers c.in-Some.ended n.is ended ∙ ap plan_by (sym (c.slot.ensures m n.frame k is fits.slot)) ∙ sym c.plan_told.ensures in
    let at : ended_at t m.frames ≡ Some c.in-Some.ended = ap (ended_at t) n.is ∙ ended in
    goes_on t m c.args.ram.now c.go_on.new.ram c.in-Some.ended c.in-GoingTo.target (plan ∙ c.in-GoingTo.is) at (c.go_on.ensures m k h)

pub returns-in-Throwing : goal.returns-in-Throwing
returns-in-Throwing g c = λ m k h there.
    let t : Told = told (g.S.Subclass.sub c.args.types.now) (g.S.Subclass.clauses c.args.types.now) in
    let n = first_of m.room m.frames c.top-frame.result (c.top-frame.ensures m k) c.if-frame-eq0.false in
    let is = top_is m c.top-frame.result n.frame n.callers n.is (c.top-frame.ensures m k) in
    let slots : HasSlots t n.frame = (subst (AllHaveSlots t) n.is h).0 in
    let ended : ended_in t n.frame ≡ Some c.in-Some.ended = sym (c.ended.ensures m n.frame k is) ∙ c.in-Some.is in
    let fits : Fits n.frame c.in-Some.ended = ended_fits t n.frame c.in-Some.ended slots ended in
    let plan : plan_at t m.frames ≡ c.plan_told.result = plan_is t m n.frame n.callers c.in-Some.ended n.is ended ∙ ap plan_by (sym (c.slot.ensures m n.frame k is fits.slot)) ∙ sym c.plan_told.ensures in
    let at : ended_at t m.frames ≡ Some c.in-Some.ended = ap (ended_at t) n.is ∙ ended in
    throws_on t m c.args.ram.now c.throw_on.new.ram c.in-Some.ended c.in-Throwing.object (plan ∙ c.in-Throwing.is) at there (λ class e. c.throw_on.ensures m class k h e)
