use Rattle.std.proofs.Common.{sym, ◌∙◌}
use Rattle.memory_states.specs.Told.{Told, told}
use Rattle.tiny_except.proofs.unwinding.throw.Goals as goal
use Rattle.tiny_except.proofs.Catches.{thrown_by, passed_by}

pub returns-then-is_caught : goal.returns-then-is_caught
returns-then-is_caught g c = λ m class k h e.
    let t : Told = told (g.S.Subclass.sub c.args.types.now) (g.S.Subclass.clauses c.args.types.now) in
    thrown_by t m class c.class-class.result c.args.thrown c.catch.new.ram c.catch.result (c.class-class.ensures m class k e) (sym (c.is_caught.ensures m k) ∙ c.if-is_caught.true) (c.catch.ensures m k h)

pub returns-else-is_caught : goal.returns-else-is_caught
returns-else-is_caught g c = λ m class k h e.
    let t : Told = told (g.S.Subclass.sub c.args.types.now) (g.S.Subclass.clauses c.args.types.now) in
    passed_by t m class c.class-class.result c.args.thrown c.pass.new.ram c.pass.result (c.class-class.ensures m class k e) (sym (c.is_caught.ensures m k) ∙ c.if-is_caught.false) (c.pass.ensures m k)
