use Rattle.std.proofs.Common.{◌≡◌, ◌∙◌, Some, None, true, sym, ap}
use Rattle.std.specs.Option.{option_copied, option_map_or}
use Rattle.std.proofs.lemmas.Result.{IfOk-weaker}
use Rattle.assemblies.specs.Binding.{id_at}
use Rattle.class_slots.specs.Added.{added_filled}
use Rattle.class_table.specs.Seen.{classes_seen, row_seen}
use Rattle.class_queries.specs.Found.{found_row}
use Rattle.type_tests.proofs.TypeLaws.{row_there, row_nowhere}
use Rattle.slot_tests.proofs.added.row_adds.Goals as goal

pub added_filled-requires : goal.added_filled-requires
added_filled-requires c = c.requires.methods

pub returns-in-Some : goal.returns-in-Some
returns-in-Some c =
    let t = c.args.subject.now.setting.table.now in
    let cs = classes_seen t in
    let file = c.args.file in
    let n = c.args.n in
    let r = c.in-Some.row.now in
    let row : found_row t (id_at file n) ≡ Some r = ap (λ g. found_row t (id_at g n)) (sym c.from.ensures) ∙ sym c.find_class.ensures ∙ ap option_copied c.in-Some.is in
    let f = row_there t file n r row in
    IfOk-weaker c.added_filled.result _ _
    (λ b told.
    told file f.0
    ∙ ap (λ x. added_filled (classes_seen x) (id_at c.from.result n) (row_seen file f.0 r)) c.requires.table
    ∙ ap (λ g. added_filled cs (id_at g n) (row_seen file f.0 r)) c.from.ensures
    ∙ sym (ap (λ o. option_map_or (added_filled cs (id_at file n)) o true) f.2))
    c.added_filled.ensures

pub returns-in-None : goal.returns-in-None
returns-in-None c =
    let t = c.args.subject.now.setting.table.now in
    let row : found_row t (id_at c.args.file c.args.n) ≡ None = ap (λ g. found_row t (id_at g c.args.n)) (sym c.from.ensures) ∙ sym c.find_class.ensures ∙ ap option_copied c.in-None.is in
    sym (ap (λ o. option_map_or (added_filled (classes_seen t) (id_at c.args.file c.args.n)) o true) (row_nowhere t c.args.file c.args.n row))
