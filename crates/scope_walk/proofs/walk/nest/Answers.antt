use Rattle.std.proofs.Common.{[], ◌∷◌, ◌++◌, map, ap, ◌∙◌, refl, arith}
use Rattle.std.specs.Prelude.{slice_set}
use Rattle.std.proofs.lemmas.List.{map-set}
use Rattle.scope_walk.proofs.Lists.{stands_at}
use Rattle.scope_walk.proofs.Walks.{index_map}
use Rattle.scope_walk.proofs.walk.nest.Goals as goal

pub returns-in_ok-push : goal.returns-in_ok-push
returns-in_ok-push c =
    map-set (λ rows. rows.items) c.args.nested.now.items c.args.outer c.push.new.self
    ∙ ap (slice_set (map (λ rows. rows.items) c.args.nested.now.items) c.args.outer) (c.in_ok-push.ensures.items ∙ ap (λ xs. xs ++ c.args.n ∷ []) (index_map (λ rows. rows.items) c.args.nested.now.items c.args.outer c.index_mut.result.now [] (stands_at c.args.nested.now.items c.args.nested.now.items c.args.outer c.index_mut.result.now refl (omega (arith, c.if-outer-len.true, c.len.ensures)) c.index_mut.ensures.value)))
