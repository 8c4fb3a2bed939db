use Rattle.std.proofs.Common.{◌≡◌, ◌++◌, ◌∷◌, [], suc, length, map, Some, refl, sym, ap, ◌∙◌, add-one}
use Rattle.std.specs.Prelude.{slice_get}
use Rattle.std.proofs.lemmas.Option.{slice_get_past, slice_get_read}
use Rattle.file_tables.specs.Metadata.{column_of}
use Rattle.world_rows.specs.Tokens.{type_defs}
use Rattle.kept_marks.specs.Masks.{masks_of}
use Rattle.image_rows.specs.Types.{tokens_of, type_with, type_made}
use Rattle.image_rows.proofs.TypeLaws.{type_past, type_there}
use Rattle.image_rows.proofs.types.TypesRangedParts.push.Goals as goal

pub returns-in_default-clause-parts : goal.returns-in_default-clause-parts
returns-in_default-clause-parts c =
    type_past (masks_of c.args.self.now.choice.now) c.args.self.now.tables.now c.args.self.now.rows.now (map (λ list. list.items) c.args.self.now.interfaces.now) c.args.first c.args.n c.args.out.now.items
    (slice_get_past c.args.self.now.rows.now c.args.n c.in_default.ensures.lookup.3)

pub returns-clause-parts : goal.returns-clause-parts
returns-clause-parts c =
    let kept = masks_of c.args.self.now.choice.now in
    let m = c.args.self.now.tables.now in
    let xs = c.args.self.now.rows.now in
    let lists = map (λ list. list.items) c.args.self.now.interfaces.now in
    let row = c.in-Some.row.now in
    let out = c.args.out.now.items in
    let there : slice_get xs c.args.n ≡ Some row = slice_get_read xs (length xs) c.args.n row refl c.in-Some.ensures.lookup.3.0 c.in-Some.ensures.lookup.1 in
    let column = ap (λ r. r.extends) c.read_row-columns.ensures ∙ ap (λ k. column_of m type_defs k 3) (add-one c.args.n) in
    c.in_ok-push.ensures.items
    ∙ ap (λ p. out ++ p ∷ [])
    (c.in_ok-type_part.ensures
    ∙ ap (λ extends. type_made kept c.args.first (type_with m row extends (tokens_of m c.columns_at-interfaces.result.now))) column
    ∙ ap (λ columns. type_made kept c.args.first (type_with m row (column_of m type_defs (suc c.args.n) 3) (tokens_of m columns))) c.columns_at-interfaces.ensures)
    ∙ ap (λ ps. out ++ ps) (sym (type_there kept m xs lists c.args.first c.args.n row there))
