use Rattle.std.proofs.Common.{◌+◌, Option, sym, ap, ◌∙◌, add-one, drop}
use Rattle.board_types.specs.declared.board.TypeAt.{TypeAt}
use Rattle.memory_states.specs.Told.{Told, told}
use Rattle.tiny_except.specs.Clauses.{first_sought}
use Rattle.tiny_except.specs.declared.clauses.Found.{Found}
use Rattle.tiny_except.specs.declared.clauses.Regions.TheVariants.{Try, Round}
use Rattle.tiny_except.specs.Unwinding.{stop_in}
use Rattle.tiny_except.proofs.frames.stop.Goals as goal

pub returns-in-None : goal.returns-in-None
returns-in-None g c = λ m f k e.
    let t : Told = told (g.S.Subclass.sub c.args.types.now) (g.S.Subclass.clauses c.args.types.now) in
    c.first.ensures
    ∙ ap (λ (z : TypeAt). first_sought t (record { regions = Try c.place_of.result; goal = c.args.goal }) 0 (drop 0 (t.clauses z))) (c.method_of-method.ensures m f k e)
    ∙ ap (λ n. first_sought t (record { regions = Try n; goal = c.args.goal }) 0 (drop 0 (t.clauses f.method))) (c.place_of.ensures m f k e)
    ∙ ap (λ (z : Option Found). stop_in t c.args.goal z f) (sym c.in-None.is)

pub returns-in-Some : goal.returns-in-Some
returns-in-Some g c = λ m f k e.
    let t : Told = told (g.S.Subclass.sub c.args.types.now) (g.S.Subclass.clauses c.args.types.now) in
    c.first-in-Some.ensures
    ∙ ap (λ (z : TypeAt). first_sought t (record { regions = Round c.in-Some.ended.clause; goal = c.args.goal }) (c.in-Some.ended.number + 1) (drop (c.in-Some.ended.number + 1) (t.clauses z))) (c.method_of-method.ensures m f k e)
    ∙ ap (λ n. first_sought t (record { regions = Round c.in-Some.ended.clause; goal = c.args.goal }) n (drop n (t.clauses f.method))) (add-one c.in-Some.ended.number)
    ∙ ap (λ (z : Option Found). stop_in t c.args.goal z f) (sym c.in-Some.is)
