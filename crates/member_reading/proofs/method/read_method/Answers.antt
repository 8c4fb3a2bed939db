use Rattle.std.proofs.Common.{ap, ◌∙◌}
use Rattle.std.specs.Prelude.{slice_get}
use Rattle.std.specs.Option.{option_map}
use Rattle.file_tables.specs.Bytes.{has_bit}
use Rattle.member_keys.specs.Seen.{signature_seen}
use Rattle.member_reading.specs.Meant.{method_signature_meant}
use Rattle.member_reading.proofs.MethodLaws.{method_read, same_tables, seen_is}
use Rattle.member_reading.proofs.method.read_method.Goals as goal

pub returns-clause-row : goal.returns-clause-row
returns-clause-row c f here =
    seen_is c.args.types.now.names.now c.args.file f here c.args.n c.read_row-row.result.flags c.text-name.result.now (option_map signature_seen c.in_ok-signature.signature) c.has_bit.result c.has_bit-2.result c.has_bit-3.result c.has_bit-4.result _ _
    (c.has_bit.ensures ∙ ap (λ x. has_bit x 4) c.from-flags.ensures) (c.has_bit-2.ensures ∙ ap (λ x. has_bit x 6) c.from-flags.ensures) (c.has_bit-3.ensures ∙ ap (λ x. has_bit x 8) c.from-flags.ensures) (c.has_bit-4.ensures ∙ ap (λ x. has_bit x 10) c.from-flags.ensures)
    c.read_body-body.ensures
    ∙ method_read c.args.types.now.names.now c.args.file f here c.args.tables.now c.args.natives.now c.args.n c.read_row-row.result c.text-name.result.now c.class_of-class.result c.in_ok-signature.signature
    (same_tables (slice_get c.args.types.now.names.now c.args.file) c.args.tables.now f c.requires.tables here) c.requires.natives c.requires.row c.read_row-row.ensures c.text-name.ensures (c.class_of-class.ensures ∙ c.requires.owner)
    (c.in_ok-signature.ensures ∙ ap (method_signature_meant c.args.types.now.names.now c.args.file) c.bytes.ensures)
