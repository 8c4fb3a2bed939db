use Rattle.std.proofs.Common.{ap}
use Rattle.image_form.specs.Form.{regions_of}
use Rattle.msspot_read.specs.Rows.{row_of}
use Rattle.msspot_read.specs.Held.{clause_of}
use Rattle.msspot_read.proofs.body.regions.Goals as goal

pub returns : goal.returns
returns c =
    rw (c.row-row.ensures.columns 2, c.row-row.ensures.columns 3, c.row-row.ensures.columns 4, c.row-row.ensures.columns 5)
    (ap (λ i. regions_of (clause_of (row_of i 8 c.args.n))) c.parts.ensures)
