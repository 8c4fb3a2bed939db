use Rattle.std.proofs.Common.{◌<◌, Some, None, length, ap, sym, ◌∙◌, arith}
use Rattle.std.specs.Prelude.{if◌then◌else◌}
use Rattle.std.proofs.lemmas.Option.{slice_get-get_or}
use Rattle.cil_rows.specs.declared.rows.ClassLayoutRow.{ClassLayoutRow}
use Rattle.file_tables.specs.Metadata.{row_count}
use Rattle.world_rows.specs.Kinds.{layout_size}
use Rattle.world_rows.specs.Tokens.{type_defs}
use Rattle.member_keys.specs.Seen.{class_seen}
use Rattle.class_table.specs.Outlines.{outline_seen}
use Rattle.member_reading.proofs.DataLaws.{size_by_fields, row_within, layout_is, layouts_there}
use Rattle.member_reading.proofs.data.layout_size.Goals as goal

pub returns-then-has_fields : goal.returns-then-has_fields
returns-then-has_fields c =
    sym
    (size_by_fields c.args.types.now.names.now (class_seen c.args.class) (outline_seen c.args.row.now) c.tables-tables.result.now c.requires.row c.tables-tables.ensures
    ∙ ap (λ b. if b then None else layout_size c.args.types.now.names.now (class_seen c.args.class)) (sym c.has_fields.ensures ∙ c.if-has_fields.true))

pub overflow_add-class : goal.overflow_add-class
overflow_add-class c =
    let within : c.args.class.row < row_count c.tables-tables.result.now type_defs = row_within c.args.types.now.names.now (class_seen c.args.class) (outline_seen c.args.row.now) c.tables-tables.result.now c.requires.row c.tables-tables.ensures in
    omega (arith, within, c.rows-few.ensures)

pub first_row-requires : goal.first_row-requires
first_row-requires c =
    let within : c.args.class.file < length c.args.types.now.layouts.now = omega (arith, c.requires.types.layouts.count, c.requires.file) in
    layouts_there c.args.types.now.names.now c.args.types.now.layouts.now c.args.class.file c.tables-tables.result.now _ c.requires.types.layouts c.tables-tables.ensures (slice_get-get_or c.args.types.now.layouts.now c.args.class.file _ within)

pub returns-in_err-row : goal.returns-in_err-row
returns-in_err-row c =
    c.from_residual.ensures
    ∙ c.in_err-row.ensures 1
    ∙ sym
    (size_by_fields c.args.types.now.names.now (class_seen c.args.class) (outline_seen c.args.row.now) c.tables-tables.result.now c.requires.row c.tables-tables.ensures
    ∙ ap (λ b. if b then None else layout_size c.args.types.now.names.now (class_seen c.args.class)) (sym c.has_fields.ensures ∙ c.if-has_fields.false)
    ∙ layout_is c.args.types.now.names.now (class_seen c.args.class) c.tables-tables.result.now c.tables-tables.ensures)

pub returns : goal.returns
returns c =
    ap (λ (r : ClassLayoutRow). Some r.class_size) c.from_row.ensures
    ∙ c.in_ok-row.ensures 1
    ∙ sym
    (size_by_fields c.args.types.now.names.now (class_seen c.args.class) (outline_seen c.args.row.now) c.tables-tables.result.now c.requires.row c.tables-tables.ensures
    ∙ ap (λ b. if b then None else layout_size c.args.types.now.names.now (class_seen c.args.class)) (sym c.has_fields.ensures ∙ c.if-has_fields.false)
    ∙ layout_is c.args.types.now.names.now (class_seen c.args.class) c.tables-tables.result.now c.tables-tables.ensures)
