use Rattle.std.proofs.Common.{◌≡◌, ◌≤◌, Some, length, map, sym, ap, ◌∙◌, refl, arith}
use Rattle.std.proofs.lemmas.List.{take_all}
use Rattle.std.proofs.lemmas.Option.{slice_get-get_or}
use Rattle.type_names.specs.declared.keys.NameKey.{NameKey}
use Rattle.type_names.specs.Names.{type_seen}
use Rattle.type_tests.specs.Columns.{class_name}
use Rattle.type_tests.proofs.MoreLaws.{map_more}
use Rattle.type_tests.proofs.columns.row_names.Goals as goal

pub loop-row-preserved : goal.loop-row-preserved
loop-row-preserved c =
    let key : NameKey = record { enclosing = c.row-item.result.enclosing; namespace = c.row-item.result.namespace; name = c.row-item.result.name } in
    ap (map type_seen) c.in_ok-push.ensures.items
    ∙ map_more type_seen class_name c.loop-row.keys.items c.args.rows.now c.loop-row.row-index key c.row-item.result (slice_get-get_or c.args.rows.now c.loop-row.row-index c.row-item.result c.loop-row-test.true ∙ ap Some (sym c.row-item.is)) refl c.loop-row.invariant

pub returns : goal.returns
returns c = let past : length c.args.rows.now ≤ c.loop-row.row-index = omega arith in c.loop-row.invariant ∙ ap (map class_name) (take_all c.loop-row.row-index c.args.rows.now past)
