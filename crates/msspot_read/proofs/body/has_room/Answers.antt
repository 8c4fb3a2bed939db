use Rattle.std.proofs.Common.{◌∙◌}
use Rattle.image_form.specs.Form as form
use Rattle.msspot_read.specs.Held.{clauses}
use Rattle.msspot_read.proofs.BodyLaws.{room_yes, room_no}
use Rattle.msspot_read.proofs.body.has_room.Goals as goal

pub returns-then-max_stack-ne0 : goal.returns-then-max_stack-ne0
returns-then-max_stack-ne0 c = room_yes c.args.max_stack (form.part c.args.first c.args.count (clauses c.args.known.now)) c.if-max_stack-ne0.true

pub returns : goal.returns
returns c = c.no_catch.ensures ∙ room_no c.args.max_stack (form.part c.args.first c.args.count (clauses c.args.known.now)) c.if-max_stack-ne0.false
