use Rattle.std.proofs.Common.{◌∙◌, sym}
use Rattle.msspot_read.proofs.ImageLaws.{bad_view, good_view}
use Rattle.msspot_read.proofs.image.Image.view.Goals as goal

pub returns-then-not-stand : goal.returns-then-not-stand
returns-then-not-stand c = bad_view c.args.bytes.now c.in-Some.parts c.in-Some.ensures (sym c.stand.ensures ∙ c.if-not-stand.true)

pub returns : goal.returns
returns c = good_view c.args.bytes.now c.in-Some.parts c.in-Some.ensures (sym c.stand.ensures ∙ c.if-not-stand.false)
