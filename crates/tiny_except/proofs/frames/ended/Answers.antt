use Rattle.std.proofs.Common.{ap, ◌∙◌, drop}
use Rattle.board_types.specs.declared.board.TypeAt.{TypeAt}
use Rattle.memory_states.specs.Told.{Told, told}
use Rattle.tiny_except.specs.Clauses.{first_sought}
use Rattle.tiny_except.specs.declared.clauses.Regions.TheVariants.{Handler}
use Rattle.tiny_except.specs.declared.clauses.Goal.TheVariants as kind
use Rattle.tiny_except.proofs.frames.ended.Goals as goal

pub returns : goal.returns
returns g c = λ m f k e.
    let t : Told = told (g.S.Subclass.sub c.args.types.now) (g.S.Subclass.clauses c.args.types.now) in
    c.first.ensures
    ∙ ap (λ (z : TypeAt). first_sought t (record { regions = Handler c.place_of.result; goal = kind.Finally }) 0 (drop 0 (t.clauses z))) (c.method_of.ensures m f k e)
    ∙ ap (λ n. first_sought t (record { regions = Handler n; goal = kind.Finally }) 0 (drop 0 (t.clauses f.method))) (c.place_of.ensures m f k e)
