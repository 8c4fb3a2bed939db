use Rattle.std.proofs.Common.{◌≡◌, ◌∙◌, sym}
use Rattle.kept_marks.specs.Masks.{masks_of}
use Rattle.kept_parts.proofs.PlaceLaws.{file_there}
use Rattle.looked_rows.specs.Looked.{file_with}
use Rattle.world_rows.specs.World.{assemblies_of}
use Rattle.convert_kept.proofs.FileLaws.{zip_at, kept_file, image_told, limit_told}
use Rattle.convert_kept.proofs.file.file_image.Goals as goal

pub parts_image-requires : goal.parts_image-requires
parts_image-requires c =
    let files = c.args.world.now in
    let f = c.args.file in
    let y = file_with c.pe-pe.result.now c.tables-tables.result.now in
    let there = file_there files f c.pe-pe.result.now c.tables-tables.result.now c.pe-pe.ensures c.tables-tables.ensures in
    let opened = c.requires.opened f y there in
    c.accepted_codes_can_be_shrunk.ensures files f y (masks_of c.new-choice.result) c.requires.accepted there
    (c.opened_files_have_bytes.ensures opened.0 y opened.1.0 opened.1.1)

pub returns-in-Ok : goal.returns-in-Ok
returns-in-Ok c x at =
    let files = c.args.world.now in
    let f = c.args.file in
    let k = c.args.kept.now in
    let y = file_with c.pe-pe.result.now c.tables-tables.result.now in
    let there = file_there files f c.pe-pe.result.now c.tables-tables.result.now c.pe-pe.ensures c.tables-tables.ensures in
    let opened = c.requires.opened f y there in
    let both = zip_at files (assemblies_of files) f x at in
    let named = c.requires.needed.closed.keeps.named in
    let is =
    kept_file files k f y x.1 c.new-choice.result c.in_ok-parts.parts c.requires.accepted c.requires.counts named c.new-choice.ensures there both.1
    (c.opened_files_have_bytes.ensures opened.0 y opened.1.0 opened.1.1)
    (c.cut_numbers_pass_limits.ensures files k.marks f opened.0 y x.1 c.requires.accepted there both.1 opened.1.0 opened.1.1 named)
    (c.in_ok-parts.ensures y x.1 there both.1) in
    image_told files k.marks f y x (cc (sym there ∙ both.0)) c.in-Ok.image.items
    (c.in-Ok.ensures.image files k.marks x.1 is)
    (c.in-Ok.ensures.within files k.marks x.1 is)

pub returns-in-Err-Limit : goal.returns-in-Err-Limit
returns-in-Err-Limit c x at =
    let files = c.args.world.now in
    let f = c.args.file in
    let k = c.args.kept.now in
    let y = file_with c.pe-pe.result.now c.tables-tables.result.now in
    let there = file_there files f c.pe-pe.result.now c.tables-tables.result.now c.pe-pe.ensures c.tables-tables.ensures in
    let opened = c.requires.opened f y there in
    let both = zip_at files (assemblies_of files) f x at in
    let named = c.requires.needed.closed.keeps.named in
    let is =
    kept_file files k f y x.1 c.new-choice.result c.in_ok-parts.parts c.requires.accepted c.requires.counts named c.new-choice.ensures there both.1
    (c.opened_files_have_bytes.ensures opened.0 y opened.1.0 opened.1.1)
    (c.cut_numbers_pass_limits.ensures files k.marks f opened.0 y x.1 c.requires.accepted there both.1 opened.1.0 opened.1.1 named)
    (c.in_ok-parts.ensures y x.1 there both.1) in
    limit_told files k.marks f y x (cc (sym there ∙ both.0)) c.in-Err-Limit.limit
    (rw c.in-Err-Limit.field-0-is at (c.in-Err-Limit.ensures.refused files k.marks x.1 is))
