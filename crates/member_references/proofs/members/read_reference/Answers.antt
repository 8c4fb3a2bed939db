use Rattle.std.proofs.Common.{◌≡◌, ◌+◌, sym, ap, ◌∙◌}
use Rattle.std.specs.Prelude.{slice_index}
use Rattle.file_tables.specs.Metadata.{row_of}
use Rattle.cil_rows.specs.declared.rows.MemberRefRow.{MemberRefRow}
use Rattle.world_rows.specs.Tokens.{member_refs, bytes_at, begins_field}
use Rattle.member_references.proofs.RowLaws.{field_read, method_read}
use Rattle.member_references.proofs.members.read_reference.Goals as goal

pub returns-then-is_field : goal.returns-then-is_field
returns-then-is_field c =
    let row = row_of c.args.tables.now member_refs (c.args.n + 1) in
    let blob : c.bytes.result.now ≡ bytes_at c.args.tables.now (slice_index row 2) = c.bytes.ensures ∙ ap (λ (r : MemberRefRow). bytes_at c.args.tables.now r.signature) c.read_row-row.ensures in
    field_read c.args.members.now.names.now c.args.file c.args.n c.find_field.result c.args.tables.now c.requires.tables c.requires.row (ap begins_field (sym blob) ∙ sym c.is_field.ensures ∙ c.if-is_field.true) c.find_field.ensures

pub returns-in_ok-find_method : goal.returns-in_ok-find_method
returns-in_ok-find_method c =
    let row = row_of c.args.tables.now member_refs (c.args.n + 1) in
    let blob : c.bytes.result.now ≡ bytes_at c.args.tables.now (slice_index row 2) = c.bytes.ensures ∙ ap (λ (r : MemberRefRow). bytes_at c.args.tables.now r.signature) c.read_row-row.ensures in
    method_read c.args.members.now.names.now c.args.file c.args.n c.in_ok-find_method.field-0 c.args.tables.now c.requires.tables c.requires.row (ap begins_field (sym blob) ∙ sym c.is_field.ensures ∙ c.if-is_field.false) c.in_ok-find_method.ensures
