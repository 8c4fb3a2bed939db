use Rattle.std.proofs.Common.{[], ◌∷◌, ◌++◌, map, ap, ◌∙◌, refl, arith}
use Rattle.std.specs.Prelude.{slice_set}
use Rattle.std.proofs.lemmas.List.{map-set}
use Rattle.type_names.proofs.IndexLaws.{stands_at}
use Rattle.type_names.proofs.Walks.{index_map}
use Rattle.image_rows.proofs.interfaces.add_column.Goals as goal

pub returns-in_ok-push : goal.returns-in_ok-push
returns-in_ok-push c =
    map-set (λ list. list.items) c.args.lists.now.items c.args.n c.push.new.self
    ∙ ap (slice_set (map (λ list. list.items) c.args.lists.now.items) c.args.n) (c.in_ok-push.ensures.items ∙ ap (λ xs. xs ++ c.args.column ∷ []) (index_map (λ list. list.items) c.args.lists.now.items c.args.n c.index_mut.result.now [] (stands_at c.args.lists.now.items c.args.lists.now.items c.args.n c.index_mut.result.now refl (omega (arith, c.if-n-len.true, c.len.ensures)) c.index_mut.ensures.value)))
