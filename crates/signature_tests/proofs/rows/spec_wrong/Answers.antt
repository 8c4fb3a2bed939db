use Rattle.std.proofs.Common.{◌≡◌, false, ap, ◌∙◌}
use Rattle.std.specs.Prelude.{slice_index}
use Rattle.cil_rows.specs.declared.rows.TypeSpecRow.{TypeSpecRow}
use Rattle.cil_sig.specs.Reading.{whole_spec}
use Rattle.world_rows.specs.Tokens.{bytes_at}
use Rattle.verdict_rules.specs.Members.{wrong_at, in_spec}
use Rattle.signature_tests.specs.Fits.{fits_at}
use Rattle.signature_tests.proofs.RowLaws.{blob_is, read_is}
use Rattle.signature_tests.proofs.ToldLaws.{spec_told}
use Rattle.signature_tests.proofs.rows.spec_wrong.Goals as goal

pub returns : goal.returns
returns c = λ x row here at.
    let placed : c.in_ok-row.row.signature ≡ slice_index row 0 = ap (λ (r : TypeSpecRow). r.signature) (read_is _ _ row _ c.in_ok-row.ensures at) in
    let blob : c.bytes.result.now ≡ bytes_at x.metadata (slice_index row 0) = blob_is c.args.subject.now.world.now c.args.file c.tables.result.now c.tables.ensures x here c.in_ok-row.row.signature (slice_index row 0) c.bytes.result.now c.bytes.ensures placed in
    c.spec_blob_wrong.ensures
    ∙ ap (λ b. wrong_at b (whole_spec b) in_spec (fits_at c.args.subject.now.world.now c.args.file false)) blob
    ∙ spec_told c.args.subject.now.world.now c.args.file x here (bytes_at x.metadata (slice_index row 0)) false
