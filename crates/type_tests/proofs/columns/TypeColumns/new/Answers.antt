use Rattle.std.proofs.Common.{◌≡◌, ◌<◌, Some, length, map, sym, ap, ◌∙◌, arith}
use Rattle.std.specs.Prelude.{slice_get}
use Rattle.std.proofs.lemmas.Option.{slice_get-get_or}
use Rattle.type_tests.specs.Columns.{class_name}
use Rattle.type_tests.proofs.TypeLaws.{rows_named}
use Rattle.type_tests.proofs.columns.TypeColumns.new.Goals as goal

pub read_columns-requires : goal.read_columns-requires
read_columns-requires c =
    let files = c.args.subject.now.world.now in
    let t = c.classes-table.result.now in
    let within : c.args.file < length t.files.items = omega (arith, c.requires, c.classes-table.ensures.rows.count) in
    let here : slice_get t.files.items c.args.file ≡ Some c.index.result.now = slice_get-get_or t.files.items c.args.file c.index.result.now within ∙ ap Some (sym c.index.ensures) in
    c.in_ok-keys.ensures ∙ ap (map class_name) c.deref.ensures.value ∙ rows_named files c.args.file c.tables.result.now c.tables.ensures t c.classes-table.ensures.rows c.index.result.now here
