use Rattle.std.proofs.Common.{◌∙◌, ap}
use Rattle.image_form.specs.Form as form
use Rattle.msspot_read.specs.Rows.{row_of}
use Rattle.msspot_read.specs.Held.{clause_of}
use Rattle.msspot_read.proofs.BodyLaws.{lies_law, clause_same}
use Rattle.msspot_read.proofs.body.lies_in.Goals as goal

pub returns : goal.returns
returns c =
    let columns = c.row-row.result.columns in
    c.is_row_in.ensures
    ∙ lies_law c.args.size columns
    ∙ ap (form.lies_in c.args.size) (clause_same columns (row_of c.parts.result.now 8 c.args.n) c.row-row.ensures.columns)
    ∙ ap (λ i. form.lies_in c.args.size (clause_of (row_of i 8 c.args.n))) c.parts.ensures
