use Rattle.std.proofs.Common.{◌≡◌, IfOk, subst, sym, ap, ◌∙◌}
use Rattle.file_tables.specs.File.{FilePart}
use Rattle.msspot_write.specs.declared.parts.Parts.{Parts}
use Rattle.looked_rows.specs.Looked.{file_with}
use Rattle.kept_marks.specs.Masks.{InFile, masks_of}
use Rattle.converted.specs.Images.{parts_at, parts_cut}
use Rattle.kept_parts.specs.Made.{parts_made}
use Rattle.kept_parts.proofs.PlaceLaws.{file_there}
use Rattle.kept_parts.proofs.parts.kept_parts.Goals as goal

pub made_parts-requires : goal.made_parts-requires
made_parts-requires c =
    let files = c.args.world.now in
    let f = c.args.file in
    let x = file_with c.pe-pe.result.now c.tables.result.now in
    c.rows_are_as_many.ensures files f x c.classes.result.now c.file_rows.result.now (file_there files f c.pe-pe.result.now c.tables.result.now c.pe-pe.ensures c.tables.ensures) c.classes.ensures.rows c.file_rows.ensures

pub returns : goal.returns
returns c x p at of =
    let files = c.args.world.now in
    let f = c.args.file in
    let k = c.args.kept.now in
    let y = file_with c.pe-pe.result.now c.tables.result.now in
    let there = file_there files f c.pe-pe.result.now c.tables.result.now c.pe-pe.ensures c.tables.ensures in
    let same : y ≡ x = cc (sym there ∙ at) in
    let Made : Parts → Type 0 = λ made. IfOk c.made_parts.result (λ parts. parts ≡ made) in
    subst Made
    (ap (λ (choice : InFile). parts_made (masks_of choice) y c.file_rows.result.now c.entry_of.result) c.new-choice.ensures
    ∙ ap (λ entry. parts_made (masks_of (record { kept = k; file = f })) y c.file_rows.result.now entry) c.entry_of.ensures
    ∙ c.made_parts_are_of_the_file.ensures files f y p there of c.classes.result.now c.file_rows.result.now c.classes.ensures.rows c.file_rows.ensures k c.requires.counts
    ∙ ap (λ (z : FilePart). parts_cut (parts_at files k.marks f z p)) same)
    c.made_parts.ensures
