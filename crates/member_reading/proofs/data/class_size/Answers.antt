use Rattle.std.proofs.Common.{◌≡◌, ◌≤◌, Some, None, length, map, ap, sym, ◌∙◌, arith}
use Rattle.std.specs.Prelude.{slice_get}
use Rattle.std.specs.Option.{option_map}
use Rattle.std.proofs.lemmas.Option.{slice_get-map, slice_get_past}
use Rattle.member_keys.specs.Seen.{class_seen}
use Rattle.class_table.specs.Outlines.{outline_seen}
use Rattle.member_reading.proofs.SearchLaws.{stands}
use Rattle.member_reading.proofs.TypeLaws.{size_absent, size_there}
use Rattle.member_reading.proofs.DataLaws.{no_outline, outline_found, outline_past}
use Rattle.member_reading.proofs.data.class_size.Goals as goal

pub returns-in_err-get : goal.returns-in_err-get
returns-in_err-get c =
    let past : length c.args.types.now.names.now ≤ c.args.class.file = omega (arith, c.in_err-get.ensures.lookup.3, c.requires.count) in
    c.from_residual.ensures ∙ sym (size_absent c.args.types.now.names.now (class_seen c.args.class) (no_outline c.args.types.now.names.now (class_seen c.args.class) past))

pub returns-in_err-row : goal.returns-in_err-row
returns-in_err-row c =
    let look = c.in_ok-get.ensures.lookup in
    let here : slice_get (map (λ rows. rows.items) c.args.types.now.classes.now) c.args.class.file ≡ Some c.in_ok-get.field-0.now.items = slice_get-map (λ rows. rows.items) c.args.types.now.classes.now c.args.class.file ∙ ap (option_map (λ rows. rows.items)) (stands c.args.types.now.classes.now c.args.class.file c.in_ok-get.field-0.now look.3.0 look.1) in
    let none : slice_get c.in_ok-get.field-0.now.items c.args.class.row ≡ None = ap (λ xs. slice_get xs c.args.class.row) (sym c.deref.ensures.value) ∙ slice_get_past c.deref.result.now c.args.class.row c.in_err-row.ensures.lookup.3 in
    c.from_residual-in_err-row.ensures
    ∙ sym (size_absent c.args.types.now.names.now (class_seen c.args.class) (outline_past c.args.types.now.names.now (map (λ rows. rows.items) c.args.types.now.classes.now) c.requires.read (class_seen c.args.class) c.in_ok-get.field-0.now.items here none))

pub kind_size-requires-clause-row : goal.kind_size-requires-clause-row
kind_size-requires-clause-row c =
    let look = c.in_ok-get.ensures.lookup in
    let row = c.in_ok-row.ensures.lookup in
    let here : slice_get (map (λ rows. rows.items) c.args.types.now.classes.now) c.args.class.file ≡ Some c.in_ok-get.field-0.now.items = slice_get-map (λ rows. rows.items) c.args.types.now.classes.now c.args.class.file ∙ ap (option_map (λ rows. rows.items)) (stands c.args.types.now.classes.now c.args.class.file c.in_ok-get.field-0.now look.3.0 look.1) in
    let at : slice_get c.in_ok-get.field-0.now.items c.args.class.row ≡ Some c.in_ok-row.row.now = ap (λ xs. slice_get xs c.args.class.row) (sym c.deref.ensures.value) ∙ stands c.deref.result.now c.args.class.row c.in_ok-row.row.now row.3.0 row.1 in
    outline_found c.args.types.now.names.now (map (λ rows. rows.items) c.args.types.now.classes.now) c.requires.read (class_seen c.args.class) c.in_ok-get.field-0.now.items c.in_ok-row.row.now here at

pub returns : goal.returns
returns c =
    let look = c.in_ok-get.ensures.lookup in
    let row = c.in_ok-row.ensures.lookup in
    let here : slice_get (map (λ rows. rows.items) c.args.types.now.classes.now) c.args.class.file ≡ Some c.in_ok-get.field-0.now.items = slice_get-map (λ rows. rows.items) c.args.types.now.classes.now c.args.class.file ∙ ap (option_map (λ rows. rows.items)) (stands c.args.types.now.classes.now c.args.class.file c.in_ok-get.field-0.now look.3.0 look.1) in
    let at : slice_get c.in_ok-get.field-0.now.items c.args.class.row ≡ Some c.in_ok-row.row.now = ap (λ xs. slice_get xs c.args.class.row) (sym c.deref.ensures.value) ∙ stands c.deref.result.now c.args.class.row c.in_ok-row.row.now row.3.0 row.1 in
    c.kind_size.ensures
    ∙ sym (size_there c.args.types.now.names.now (class_seen c.args.class) (outline_seen c.in_ok-row.row.now) (outline_found c.args.types.now.names.now (map (λ rows. rows.items) c.args.types.now.classes.now) c.requires.read (class_seen c.args.class) c.in_ok-get.field-0.now.items c.in_ok-row.row.now here at))
