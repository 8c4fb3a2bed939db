use Rattle.std.proofs.Common.{ap, ◌∙◌}
use Rattle.std.specs.Option.{option_map}
use Rattle.world_rows.specs.Tokens.{bytes_at}
use Rattle.member_keys.specs.Seen.{type_seen}
use Rattle.member_reading.specs.Meant.{field_type_meant}
use Rattle.member_reading.proofs.FieldLaws.{bytes_read}
use Rattle.member_reading.proofs.field.read_field.Goals as goal

pub returns-clause-bytes : goal.returns-clause-bytes
returns-clause-bytes c =
    bytes_read c.args.types.now.names.now c.args.file c.args.tables.now c.requires.tables c.args.n (option_map type_seen c.read_field_type-signature.result) c.read_kind.result c.requires.row
    (c.read_field_type-signature.ensures
    ∙ ap (field_type_meant c.args.types.now.names.now c.args.file) (c.bytes.ensures ∙ ap (λ r. bytes_at c.args.tables.now r.signature) c.read_row-row.ensures))
    c.read_kind.ensures.bytes
