use Rattle.std.proofs.Common.{◌≡◌, Option, Some, ap, ◌∙◌, subst}
use Rattle.board_types.specs.declared.board.TypeAt.{TypeAt}
use Rattle.board_types.specs.declared.value.Shape.{Shape}
use Rattle.memory_states.specs.Told.{Told, told}
use Rattle.tiny_except.specs.declared.clauses.Found.{Found}
use Rattle.tiny_except.proofs.unwinding.throw_on.Goals as goal
use Rattle.tiny_except.specs.Unwinding.{landing}
use Rattle.tiny_except.specs.Searches.{Landed}
use Rattle.tiny_except.proofs.Catches.{class_of, takes_on}

pub returns-in-Some : goal.returns-in-Some
returns-in-Some g c = λ m class k h e.
    let t : Told = told (g.S.Subclass.sub c.args.types.now) (g.S.Subclass.clauses c.args.types.now) in
    let o = class_of m c.args.object class e in
    let same : c.shape.result.of.of ≡ class = ap (λ (z : Shape). z.of.of) (c.shape.ensures.thing m o.entry k o.there) ∙ o.is in
    let landed : Landed c.land.new.ram (Some c.in-Some.stop) m (landing t class (Some c.args.ended) m.frames) =
    subst (λ (z : Option Found). Landed c.land.new.ram z m (landing t class (Some c.args.ended) m.frames)) c.in-Some.is
    (subst (λ (z : TypeAt). Landed c.land.new.ram c.land.result m (landing t z (Some c.args.ended) m.frames)) same (c.land.ensures m k)) in
    takes_on t class m h (Some c.args.ended) c.land.new.ram c.take.new.ram c.in-Some.stop c.args.object landed (λ w f fs n q l r. c.take.ensures w f fs n q l r)
