use Rattle.std.proofs.Common.{◌≡◌, ◌<◌, length, map, ap, sym, ◌∙◌, arith}
use Rattle.std.specs.Option.{option_map}
use Rattle.std.proofs.lemmas.Option.{slice_get-map}
use Rattle.assemblies.specs.Binding.{id_at}
use Rattle.member_keys.specs.Seen.{class_seen}
use Rattle.class_table.specs.Outlines.{outline_seen, outlines_at}
use Rattle.member_reading.specs.Natives.{is_class}
use Rattle.member_reading.proofs.SearchLaws.{stands}
use Rattle.member_reading.proofs.TypeLaws.{named_is, position_within}
use Rattle.member_reading.proofs.DataLaws.{count_rows}
use Rattle.member_reading.proofs.native.find_class.Goals as goal

pub returns-in_err-row : goal.returns-in_err-row
returns-in_err-row c =
    let look = c.in_ok-rows.ensures.lookup in
    let read : map outline_seen c.deref.result.now ≡ outlines_at c.args.types.now.names.now c.args.file = ap (map outline_seen) c.deref.ensures.value ∙ c.requires.read c.args.file c.in_ok-rows.rows.now.items (slice_get-map (λ rows. rows.items) c.args.types.now.classes.now c.args.file ∙ ap (option_map (λ rows. rows.items)) (stands c.args.types.now.classes.now c.args.file c.in_ok-rows.rows.now look.3.0 look.1)) in
    let within : c.args.file < length c.args.types.now.names.now = omega (arith, look.3.0, c.requires.count) in
    ap (option_map class_seen) c.from_residual-in_err-row.ensures
    ∙ ap (option_map (id_at c.args.file)) c.in_err-row.ensures
    ∙ sym (named_is c.args.types.now.names.now c.args.file c.args.namespace.now c.args.name.now c.deref.result.now within read)

pub overflow_cast-row : goal.overflow_cast-row
overflow_cast-row c =
    let look = c.in_ok-rows.ensures.lookup in
    let read : map outline_seen c.deref.result.now ≡ outlines_at c.args.types.now.names.now c.args.file = ap (map outline_seen) c.deref.ensures.value ∙ c.requires.read c.args.file c.in_ok-rows.rows.now.items (slice_get-map (λ rows. rows.items) c.args.types.now.classes.now c.args.file ∙ ap (option_map (λ rows. rows.items)) (stands c.args.types.now.classes.now c.args.file c.in_ok-rows.rows.now look.3.0 look.1)) in
    let count = count_rows c.args.types.now.names.now c.args.file c.tables.result.now c.deref.result.now c.tables.ensures read in
    let within : c.in_ok-row.field-0 < length c.deref.result.now = position_within (is_class c.args.namespace.now c.args.name.now) c.deref.result.now c.in_ok-row.field-0 (sym c.in_ok-row.ensures) in
    omega (arith, within, count, c.rows-few.ensures)

pub returns : goal.returns
returns c =
    let look = c.in_ok-rows.ensures.lookup in
    let read : map outline_seen c.deref.result.now ≡ outlines_at c.args.types.now.names.now c.args.file = ap (map outline_seen) c.deref.ensures.value ∙ c.requires.read c.args.file c.in_ok-rows.rows.now.items (slice_get-map (λ rows. rows.items) c.args.types.now.classes.now c.args.file ∙ ap (option_map (λ rows. rows.items)) (stands c.args.types.now.classes.now c.args.file c.in_ok-rows.rows.now look.3.0 look.1)) in
    let within : c.args.file < length c.args.types.now.names.now = omega (arith, look.3.0, c.requires.count) in
    ap (option_map (id_at c.args.file)) c.in_ok-row.ensures
    ∙ sym (named_is c.args.types.now.names.now c.args.file c.args.namespace.now c.args.name.now c.deref.result.now within read)
