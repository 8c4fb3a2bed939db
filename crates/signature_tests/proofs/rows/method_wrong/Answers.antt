use Rattle.std.proofs.Common.{◌≡◌, ap, ◌∙◌}
use Rattle.std.specs.Prelude.{slice_index}
use Rattle.cil_rows.specs.declared.rows.MethodDefRow.{MethodDefRow}
use Rattle.cil_sig.specs.Reading.{whole_method}
use Rattle.world_rows.specs.Tokens.{bytes_at}
use Rattle.verdict_rules.specs.World.{world_of}
use Rattle.verdict_rules.specs.Members.{wrong_at, in_method, method_wrong}
use Rattle.signature_tests.specs.Fits.{admits, fits_at}
use Rattle.signature_tests.proofs.RowLaws.{blob_is, read_is, if_ok}
use Rattle.signature_tests.proofs.ToldLaws.{method_told}
use Rattle.signature_tests.proofs.rows.method_wrong.Goals as goal

pub returns : goal.returns
returns c = if_ok c.method_blob_wrong.result _ _ (λ wrong told x row here at.
    let placed : c.in-Some.row.signature ≡ slice_index row 4 = ap (λ (r : MethodDefRow). r.signature) (read_is _ _ row _ c.in-Some.ensures at) in
    let blob : c.bytes-blob.result.now ≡ bytes_at x.metadata (slice_index row 4) = blob_is c.args.subject.now.world.now c.args.file c.tables.result.now c.tables.ensures x here c.in-Some.row.signature (slice_index row 4) c.bytes-blob.result.now c.bytes-blob.ensures placed in
    told
    ∙ ap (λ b. wrong_at b (whole_method b) in_method (fits_at c.args.subject.now.world.now c.args.file (admits c.handles_of.result))) blob
    ∙ method_told c.args.subject.now.world.now c.args.file x here (bytes_at x.metadata (slice_index row 4)) (admits c.handles_of.result)
    ∙ ap (λ h. method_wrong (world_of c.args.subject.now.world.now) c.args.file x.metadata h (bytes_at x.metadata (slice_index row 4))) c.handles_of.ensures) c.method_blob_wrong.ensures
