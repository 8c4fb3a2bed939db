use Rattle.std.proofs.Common.{◌∙◌, sym, ap}
use Rattle.board_types.specs.declared.board.TypeAt.{TypeAt}
use Rattle.board_ids.specs.Ids.{id_of}
use Rattle.classes.specs.Queries.{target}
use Rattle.tiny_types.proofs.FoundLaws.{kept_there}
use Rattle.tiny_types.proofs.found.known.Goals as goal

pub returns-then-is_for : goal.returns-then-is_for
returns-then-is_for c =
    λ cs are.
    let kept = c.in_ok-kept.kept in
    let same = c.is_for.ensures c.if-is_for.true in
    are.each c.place.result kept (kept_there c.args.found.now c.place.result kept (sym c.in_ok-kept.ensures))
    ∙ ap (λ (x : TypeAt). target cs (id_of x) (id_of kept.method)) same.0
    ∙ ap (λ (x : TypeAt). target cs (id_of c.args.class) (id_of x)) same.1
