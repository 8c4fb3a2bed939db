use Rattle.std.proofs.Common.{◌≡◌, ◌++◌, length, Some, refl, sym, ap, ◌∙◌}
use Rattle.std.specs.Prelude.{slice_get}
use Rattle.std.proofs.lemmas.Option.{slice_get_past, slice_get_read}
use Rattle.image_rows.proofs.FieldLaws.{datas_past, datas_there}
use Rattle.image_rows.proofs.fields.DatasRangedParts.push.Goals as goal

pub returns-in_default-clause-parts : goal.returns-in_default-clause-parts
returns-in_default-clause-parts c =
    datas_past c.args.self.now.rows.now c.args.n c.args.out.now.items (slice_get_past c.args.self.now.rows.now c.args.n c.in_default.ensures.lookup.3)

pub returns-clause-parts : goal.returns-clause-parts
returns-clause-parts c =
    let xs = c.args.self.now.rows.now in
    let row = c.in-Some.row.now in
    let there : slice_get xs c.args.n ≡ Some row = slice_get_read xs (length xs) c.args.n row refl c.in-Some.ensures.lookup.3.0 c.in-Some.ensures.lookup.1 in
    c.in_ok-push_data.ensures ∙ ap (λ ps. c.args.out.now.items ++ ps) (sym (datas_there xs c.args.n row there))
