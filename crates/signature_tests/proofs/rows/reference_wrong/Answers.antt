use Rattle.std.proofs.Common.{◌≡◌, true, false, ap, sym, ◌∙◌}
use Rattle.std.specs.Prelude.{◌==◌, slice_index}
use Rattle.machine.specs.Data.{Id}
use Rattle.file_tables.specs.declared.schema.Coded.TheVariants.{MemberRefParent}
use Rattle.cil_rows.specs.declared.rows.MemberRefRow.{MemberRefRow}
use Rattle.cil_sig.specs.Reading.{whole_field, whole_method}
use Rattle.class_rules.specs.Rules.{holds_some}
use Rattle.type_names.specs.Resolved.{class_coded}
use Rattle.world_rows.specs.Tokens.{begins_field, bytes_at}
use Rattle.verdict_rules.specs.World.{world_of}
use Rattle.verdict_rules.specs.Members.{wrong_at, in_field, in_method, is_of_library}
use Rattle.signature_tests.specs.Fits.{admits, fits_at}
use Rattle.signature_tests.proofs.RowLaws.{blob_is, read_is, if_ok, class_is}
use Rattle.signature_tests.proofs.ToldLaws.{field_reference, method_reference}
use Rattle.signature_tests.proofs.rows.reference_wrong.Goals as goal

pub returns-then-begins_field : goal.returns-then-begins_field
returns-then-begins_field c = λ x row here at.
    let placed : c.in-Some.row.signature ≡ slice_index row 2 = ap (λ (r : MemberRefRow). r.signature) (read_is _ _ row _ c.in-Some.ensures at) in
    let blob : c.bytes-blob.result.now ≡ bytes_at x.metadata (slice_index row 2) = blob_is c.args.subject.now.world.now c.args.file c.tables.result.now c.tables.ensures x here c.in-Some.row.signature (slice_index row 2) c.bytes-blob.result.now c.bytes-blob.ensures placed in
    let begins : begins_field (bytes_at x.metadata (slice_index row 2)) ≡ true = sym (c.begins_field.ensures ∙ ap begins_field blob) ∙ c.if-begins_field.true in
    c.field_blob_wrong.ensures
    ∙ ap (λ b. wrong_at b (whole_field b) in_field (fits_at c.args.subject.now.world.now c.args.file false)) blob
    ∙ field_reference c.args.subject.now.world.now c.args.file x here row false begins

pub returns : goal.returns
returns c = if_ok c.method_blob_wrong.result _ _ (λ wrong told x row here at.
    let placed : c.in-Some.row.signature ≡ slice_index row 2 = ap (λ (r : MemberRefRow). r.signature) (read_is _ _ row _ c.in-Some.ensures at) in
    let blob : c.bytes-blob.result.now ≡ bytes_at x.metadata (slice_index row 2) = blob_is c.args.subject.now.world.now c.args.file c.tables.result.now c.tables.ensures x here c.in-Some.row.signature (slice_index row 2) c.bytes-blob.result.now c.bytes-blob.ensures placed in
    let begins : begins_field (bytes_at x.metadata (slice_index row 2)) ≡ false = sym (c.begins_field.ensures ∙ ap begins_field blob) ∙ c.if-begins_field.false in
    let parent : c.in-Some.row.class ≡ slice_index row 0 = ap (λ (r : MemberRefRow). r.class) (read_is _ _ row _ c.in-Some.ensures at) in
    let handles : admits c.handles_of-handles.result ≡ is_of_library (world_of c.args.subject.now.world.now) c.args.file x.metadata row =
    c.handles_of-handles.ensures
    ∙ c.is_of_library.ensures
    ∙ ap (λ k. holds_some (class_coded c.args.subject.now.world.now c.args.file MemberRefParent k) (λ (d : Id). d.file == 0)) parent
    ∙ ap (λ o. holds_some o (λ (d : Id). d.file == 0)) (class_is c.args.subject.now.world.now c.args.file x MemberRefParent (slice_index row 0) here)
    in
    told
    ∙ ap (λ b. wrong_at b (whole_method b) in_method (fits_at c.args.subject.now.world.now c.args.file (admits c.handles_of-handles.result))) blob
    ∙ method_reference c.args.subject.now.world.now c.args.file x here row (admits c.handles_of-handles.result) begins handles) c.method_blob_wrong.ensures
