use Rattle.std.proofs.Common.{◌≡◌, sym, ap, ◌∙◌, ◌+◌}
use Rattle.std.specs.Prelude.{Some, slice_index}
use Rattle.std.specs.Option.{option_map}
use Rattle.file_tables.specs.declared.schema.Coded.TheVariants.{MemberRefParent}
use Rattle.file_tables.specs.Metadata.{row_of}
use Rattle.classes.specs.Classes.{OwnMethod}
use Rattle.classes.specs.Queries as queries
use Rattle.cil_rows.specs.declared.rows.MemberRefRow.{MemberRefRow}
use Rattle.world_rows.specs.Tokens.{member_refs, text_at, bytes_at}
use Rattle.type_names.specs.Resolved.{class_coded}
use Rattle.member_keys.specs.Seen.{class_seen, signature_seen}
use Rattle.class_table.specs.Seen.{classes_seen}
use Rattle.member_reading.specs.Meant.{method_signature_meant}
use Rattle.member_references.proofs.MeantLaws.{method_without_class, method_without_signature, method_found}
use Rattle.member_references.proofs.members.find_method.Goals as goal

pub returns-in_default : goal.returns-in_default
returns-in_default c =
    let files = c.args.members.now.names.now in
    let row = row_of c.args.tables.now member_refs (c.args.n + 1) in
    let class : c.read_row-row.result.class ≡ slice_index row 0 = ap (λ (r : MemberRefRow). r.class) c.read_row-row.ensures in
    sym (method_without_class files c.args.file c.args.tables.now c.requires.tables row (ap (class_coded files c.args.file MemberRefParent) (sym class) ∙ sym c.in_default.ensures))

pub returns-in_default-2 : goal.returns-in_default-2
returns-in_default-2 c =
    let files = c.args.members.now.names.now in
    let row = row_of c.args.tables.now member_refs (c.args.n + 1) in
    let blob : c.bytes-blob.result.now ≡ bytes_at c.args.tables.now (slice_index row 2) = c.bytes-blob.ensures ∙ ap (λ (r : MemberRefRow). bytes_at c.args.tables.now r.signature) c.read_row-row.ensures in
    sym (method_without_signature files c.args.file c.args.tables.now c.requires.tables row (ap (method_signature_meant files c.args.file) (sym blob) ∙ sym c.in_ok-signature.ensures ∙ ap (option_map signature_seen) c.in_default-2.is))

pub returns : goal.returns
returns c =
    let files = c.args.members.now.names.now in
    let table = c.args.members.now.methods.table in
    let row = row_of c.args.tables.now member_refs (c.args.n + 1) in
    let class : c.read_row-row.result.class ≡ slice_index row 0 = ap (λ (r : MemberRefRow). r.class) c.read_row-row.ensures in
    let blob : c.bytes-blob.result.now ≡ bytes_at c.args.tables.now (slice_index row 2) = c.bytes-blob.ensures ∙ ap (λ (r : MemberRefRow). bytes_at c.args.tables.now r.signature) c.read_row-row.ensures in
    let name : c.text.result.now ≡ text_at c.args.tables.now (slice_index row 1) = c.text.ensures ∙ ap (λ (r : MemberRefRow). text_at c.args.tables.now r.name) c.read_row-row.ensures in
    c.find_method.ensures
    ∙ ap (λ t. option_map (λ (x : OwnMethod). x.id) (queries.find_method (classes_seen table) (class_seen c.in-Some.class) t (Some (signature_seen c.in-Some-2.signature)))) name
    ∙ method_found files c.args.file c.args.tables.now c.requires.tables table c.requires.members.method_table row (class_seen c.in-Some.class) (signature_seen c.in-Some-2.signature)
    (ap (class_coded files c.args.file MemberRefParent) (sym class) ∙ sym c.in-Some.ensures) (ap (method_signature_meant files c.args.file) (sym blob) ∙ sym c.in_ok-signature.ensures ∙ ap (option_map signature_seen) c.in-Some-2.is)
