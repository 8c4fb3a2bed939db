use Rattle.std.proofs.Common.{◌≡◌, ◌<◌, ◌≤◌, Some, length, map, ap, ◌∙◌, arith}
use Rattle.std.specs.Option.{option_map}
use Rattle.std.proofs.lemmas.List.{length-map}
use Rattle.std.proofs.lemmas.Option.{slice_get-map, slice_get-get_or}
use Rattle.class_table.specs.Outlines.{outline_seen, outlines_at}
use Rattle.member_reading.specs.Owners.{first_span}
use Rattle.member_reading.specs.Members.{field_span}
use Rattle.member_reading.proofs.SearchLaws.{all_taken}
use Rattle.member_reading.proofs.DataLaws.{count_rows}
use Rattle.member_reading.proofs.FieldLaws.{field_owners}
use Rattle.member_reading.proofs.field.field_owners.Goals as goal

pub find_owners-requires : goal.find_owners-requires
find_owners-requires c =
    let inside : c.args.file < length c.args.types.now.classes.now = omega (arith, c.requires.types.count, c.requires.file) in
    let read : map outline_seen c.deref-row-items.result.now ≡ outlines_at c.args.types.now.names.now c.args.file = ap (map outline_seen) c.deref-row-items.ensures.value ∙ c.requires.types.read c.args.file _ (slice_get-map (λ rows. rows.items) c.args.types.now.classes.now c.args.file ∙ ap (option_map (λ rows. rows.items)) (slice_get-get_or c.args.types.now.classes.now c.args.file c.index-types-file.result inside)) in
    let past : length c.deref-row-items.result.now ≤ c.loop-row.row-index = omega arith in
    let spans : c.deref.result.now ≡ map field_span c.deref-row-items.result.now = c.deref.ensures.value ∙ c.loop-row.invariant ∙ ap (map field_span) (all_taken c.deref-row-items.result.now c.loop-row.row-index past) in
    omega (arith, ap length spans, length-map c.deref-row-items.result.now field_span, count_rows c.args.types.now.names.now c.args.file c.args.tables.now c.deref-row-items.result.now c.requires.tables read, c.rows-few.ensures)

pub returns-clause-each : goal.returns-clause-each
returns-clause-each c =
    let inside : c.args.file < length c.args.types.now.classes.now = omega (arith, c.requires.types.count, c.requires.file) in
    let read : map outline_seen c.deref-row-items.result.now ≡ outlines_at c.args.types.now.names.now c.args.file = ap (map outline_seen) c.deref-row-items.ensures.value ∙ c.requires.types.read c.args.file _ (slice_get-map (λ rows. rows.items) c.args.types.now.classes.now c.args.file ∙ ap (option_map (λ rows. rows.items)) (slice_get-get_or c.args.types.now.classes.now c.args.file c.index-types-file.result inside)) in
    let past : length c.deref-row-items.result.now ≤ c.loop-row.row-index = omega arith in
    let spans : c.deref.result.now ≡ map field_span c.deref-row-items.result.now = c.deref.ensures.value ∙ c.loop-row.invariant ∙ ap (map field_span) (all_taken c.deref-row-items.result.now c.loop-row.row-index past) in
    field_owners c.args.types.now.names.now c.args.file c.args.tables.now c.requires.tables c.deref-row-items.result.now c.in_ok-owners.owners.items read (c.in_ok-owners.ensures.size ∙ c.rows.ensures)
    (λ n h. c.in_ok-owners.ensures.each n (omega (arith, h, c.rows.ensures)) ∙ ap (λ s. Some (first_span s n)) spans)
