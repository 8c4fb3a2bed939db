use Rattle.std.proofs.Common.{◌≡◌, sym, ap, ◌∙◌, ◌+◌}
use Rattle.std.specs.Prelude.{Some, slice_index}
use Rattle.std.specs.Option.{option_map}
use Rattle.file_tables.specs.declared.schema.Coded.TheVariants.{MemberRefParent}
use Rattle.file_tables.specs.Metadata.{row_of}
use Rattle.classes.specs.Classes.{OwnField}
use Rattle.classes.specs.Queries as queries
use Rattle.cil_rows.specs.declared.rows.MemberRefRow.{MemberRefRow}
use Rattle.world_rows.specs.Tokens.{member_refs, text_at, bytes_at}
use Rattle.type_names.specs.Resolved.{class_coded}
use Rattle.member_keys.specs.Seen.{class_seen, type_seen}
use Rattle.class_table.specs.Seen.{classes_seen}
use Rattle.member_reading.specs.Meant.{field_type_meant}
use Rattle.member_references.proofs.MeantLaws.{field_without_class, field_without_type, field_found}
use Rattle.member_references.proofs.members.find_field.Goals as goal

pub returns-in_err-class : goal.returns-in_err-class
returns-in_err-class c =
    let files = c.args.members.now.names.now in
    let row = row_of c.args.tables.now member_refs (c.args.n + 1) in
    let class : c.read_row-row.result.class ≡ slice_index row 0 = ap (λ (r : MemberRefRow). r.class) c.read_row-row.ensures in
    ap (option_map class_seen) c.from_residual.ensures
    ∙ sym (field_without_class files c.args.file c.args.tables.now c.requires.tables row (ap (class_coded files c.args.file MemberRefParent) (sym class) ∙ sym c.in_err-class.ensures))

pub returns-in_err-of : goal.returns-in_err-of
returns-in_err-of c =
    let files = c.args.members.now.names.now in
    let row = row_of c.args.tables.now member_refs (c.args.n + 1) in
    let blob : c.bytes.result.now ≡ bytes_at c.args.tables.now (slice_index row 2) = c.bytes.ensures ∙ ap (λ (r : MemberRefRow). bytes_at c.args.tables.now r.signature) c.read_row-row.ensures in
    ap (option_map class_seen) c.from_residual-in_err-of.ensures
    ∙ sym (field_without_type files c.args.file c.args.tables.now c.requires.tables row (ap (field_type_meant files c.args.file) (sym blob) ∙ sym c.in_err-of.ensures))

pub find_field-requires : goal.find_field-requires
find_field-requires c = c.requires.members.fields

pub returns : goal.returns
returns c =
    let files = c.args.members.now.names.now in
    let table = c.args.members.now.fields.table in
    let row = row_of c.args.tables.now member_refs (c.args.n + 1) in
    let class : c.read_row-row.result.class ≡ slice_index row 0 = ap (λ (r : MemberRefRow). r.class) c.read_row-row.ensures in
    let blob : c.bytes.result.now ≡ bytes_at c.args.tables.now (slice_index row 2) = c.bytes.ensures ∙ ap (λ (r : MemberRefRow). bytes_at c.args.tables.now r.signature) c.read_row-row.ensures in
    let name : c.text.result.now ≡ text_at c.args.tables.now (slice_index row 1) = c.text.ensures ∙ ap (λ (r : MemberRefRow). text_at c.args.tables.now r.name) c.read_row-row.ensures in
    c.find_field.ensures
    ∙ ap (λ t. option_map (λ (x : OwnField). x.id) (queries.find_field (classes_seen table) (class_seen c.in_ok-class.class) t (Some (type_seen c.in_ok-of.of)))) name
    ∙ field_found files c.args.file c.args.tables.now c.requires.tables table c.requires.members.field_table row (class_seen c.in_ok-class.class) (type_seen c.in_ok-of.of)
    (ap (class_coded files c.args.file MemberRefParent) (sym class) ∙ sym c.in_ok-class.ensures) (ap (field_type_meant files c.args.file) (sym blob) ∙ sym c.in_ok-of.ensures)
