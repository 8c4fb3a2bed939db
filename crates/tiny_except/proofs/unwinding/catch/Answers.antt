use Rattle.std.proofs.Common.{Option, Some, None, subst}
use Rattle.memory_states.specs.Told.{Told, told}
use Rattle.tiny_except.specs.declared.clauses.Found.{Found}
use Rattle.tiny_except.proofs.unwinding.catch.Goals as goal
use Rattle.tiny_except.specs.Unwinding.{landing}
use Rattle.tiny_except.specs.Searches.{Landed}
use Rattle.tiny_except.proofs.Catches.{catches}

pub returns-in-Some : goal.returns-in-Some
returns-in-Some g c = λ m k h.
    let t : Told = told (g.S.Subclass.sub c.args.types.now) (g.S.Subclass.clauses c.args.types.now) in
    let landed : Landed c.land-stop.new.ram (Some c.in-Some.stop) m (landing t c.args.class None m.frames) = subst (λ (o : Option Found). Landed c.land-stop.new.ram o m (landing t c.args.class None m.frames)) c.in-Some.is (c.land-stop.ensures m k) in
    catches t c.args.class m h c.args.thrown c.land-stop.new.ram c.place.new.ram c.take.new.ram c.in-Some.stop c.in_ok-object.object landed (λ w n. c.in_ok-object.ensures w n) (λ w f fs n e l r. c.take.ensures w f fs n e l r)
