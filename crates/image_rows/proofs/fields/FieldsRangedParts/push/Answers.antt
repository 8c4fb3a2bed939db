use Rattle.std.proofs.Common.{◌≡◌, ◌++◌, ◌∷◌, [], length, Some, refl, sym, ap, ◌∙◌, add-one}
use Rattle.std.specs.Prelude.{slice_get}
use Rattle.std.proofs.lemmas.Option.{slice_get_past, slice_get_read}
use Rattle.file_tables.specs.Metadata.{column_of}
use Rattle.world_rows.specs.Tokens.{fields, bytes_at}
use Rattle.kept_marks.specs.Masks.{masks_of}
use Rattle.image_rows.specs.Fields.{field_with, field_made}
use Rattle.image_rows.proofs.FieldLaws.{field_past, field_there, count_there}
use Rattle.image_rows.proofs.fields.FieldsRangedParts.push.Goals as goal

pub returns-in_default-clause-parts : goal.returns-in_default-clause-parts
returns-in_default-clause-parts c =
    field_past (masks_of c.args.self.now.choice.now) c.args.self.now.tables.now c.args.self.now.rows.now c.args.first c.args.n c.args.out.now.items
    (slice_get_past c.args.self.now.rows.now c.args.n c.in_default.ensures.lookup.3)

pub returns-clause-range : goal.returns-clause-range
returns-clause-range c =
    let xs = c.args.self.now.rows.now in
    let there : slice_get xs c.args.n ≡ Some c.in-Some.row.now = slice_get_read xs (length xs) c.args.n c.in-Some.row.now refl c.in-Some.ensures.lookup.3.0 c.in-Some.ensures.lookup.1 in
    c.data_count.ensures ∙ count_there xs c.args.n c.in-Some.row.now there

pub returns-clause-parts : goal.returns-clause-parts
returns-clause-parts c =
    let kept = masks_of c.args.self.now.choice.now in
    let m = c.args.self.now.tables.now in
    let xs = c.args.self.now.rows.now in
    let row = c.in-Some.row.now in
    let out = c.args.out.now.items in
    let there : slice_get xs c.args.n ≡ Some row = slice_get_read xs (length xs) c.args.n row refl c.in-Some.ensures.lookup.3.0 c.in-Some.ensures.lookup.1 in
    let column = ap (λ r. r.signature) c.read_row-columns.ensures ∙ ap (λ k. column_of m fields k 2) (add-one c.args.n) in
    c.in_ok-push.ensures.items
    ∙ ap (λ p. out ++ p ∷ []) (c.in_ok-field_part.ensures ∙ ap (λ at. field_made kept c.args.first (field_with m row (bytes_at m at))) column)
    ∙ ap (λ ps. out ++ ps) (sym (field_there kept m xs c.args.first c.args.n row there))
