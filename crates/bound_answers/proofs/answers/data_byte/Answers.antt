use Rattle.std.proofs.Common.{List, ℕ, ap, ◌∙◌}
use Rattle.std.specs.Prelude.{slice_get}
use Rattle.tiny_rows.specs.Rows.{rows_seen}
use Rattle.set_names.specs.Names.{seen_all}
use Rattle.bound_answers.proofs.SetLaws.{byte_none, bytes_there}
use Rattle.bound_answers.proofs.answers.data_byte.Goals as goal

pub returns-in_err-image : goal.returns-in_err-image
returns-in_err-image c = c.from_residual.ensures ∙ byte_none (seen_all c.args.set.now) c.args.field c.args.k c.in_err-image.ensures

pub returns : goal.returns
returns c =
    c.nth.ensures
    ∙ ap (λ (xs : List ℕ). slice_get xs c.args.k)
    (c.field_bytes.ensures ∙ bytes_there (seen_all c.args.set.now) c.args.field (rows_seen c.in_ok-image.image.now) c.in_ok-image.ensures)
