use Rattle.std.proofs.Common.{◌≡◌, false, ap, ◌∙◌}
use Rattle.std.specs.Prelude.{slice_index}
use Rattle.cil_rows.specs.declared.rows.StandAloneSigRow.{StandAloneSigRow}
use Rattle.cil_sig.specs.Reading.{whole_locals}
use Rattle.world_rows.specs.Tokens.{bytes_at}
use Rattle.verdict_rules.specs.Members.{wrong_at, in_locals}
use Rattle.signature_tests.specs.Fits.{fits_at}
use Rattle.signature_tests.proofs.RowLaws.{blob_is, read_is, if_ok}
use Rattle.signature_tests.proofs.ToldLaws.{locals_told}
use Rattle.signature_tests.proofs.rows.locals_wrong.Goals as goal

pub returns : goal.returns
returns c = if_ok c.locals_blob_wrong.result _ _ (λ wrong told x row here at.
    let placed : c.in-Some.row.signature ≡ slice_index row 0 = ap (λ (r : StandAloneSigRow). r.signature) (read_is _ _ row _ c.in-Some.ensures at) in
    let blob : c.bytes.result.now ≡ bytes_at x.metadata (slice_index row 0) = blob_is c.args.subject.now.world.now c.args.file c.tables.result.now c.tables.ensures x here c.in-Some.row.signature (slice_index row 0) c.bytes.result.now c.bytes.ensures placed in
    told
    ∙ ap (λ b. wrong_at b (whole_locals b) in_locals (fits_at c.args.subject.now.world.now c.args.file false)) blob
    ∙ locals_told c.args.subject.now.world.now c.args.file x here (bytes_at x.metadata (slice_index row 0)) false) c.locals_blob_wrong.ensures
