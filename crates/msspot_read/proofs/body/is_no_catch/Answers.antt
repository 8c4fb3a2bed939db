use Rattle.std.proofs.Common.{◌∙◌, sym, ap}
use Rattle.std.specs.Prelude.{not}
use Rattle.image_form.specs.Form as form
use Rattle.msspot_read.specs.Rows.{row_of}
use Rattle.msspot_read.specs.Held.{clause_of}
use Rattle.msspot_read.proofs.BodyLaws.{catch_is, clause_same}
use Rattle.msspot_read.proofs.body.is_no_catch.Goals as goal

pub returns : goal.returns
returns c =
    let columns = c.row-row.result.columns in
    ap not (sym (catch_is columns))
    ∙ ap (λ x. not (form.is_catch x)) (clause_same columns (row_of c.parts.result.now 8 c.args.n) c.row-row.ensures.columns)
    ∙ ap (λ i. not (form.is_catch (clause_of (row_of i 8 c.args.n)))) c.parts.ensures
