use Rattle.std.proofs.Common.{ℕ, List, refl, subst}
use Rattle.board_core.specs.Ends.{parts_with}
use Rattle.board_core.specs.Handling.{IsAnswered}
use Rattle.board_core.proofs.AnsweredLaws.{answered_done, operated_done}
use Rattle.board_core.proofs.doing.done.Goals as goal

pub returns-in-None : goal.returns-in-None
returns-in-None g c =
    answered_done (parts_with (g.R.Runs.runs c.args.runs.now)) c.args.p.now c.reply_to.result c.args.text.now c.answer-payload.new.text c.answer-payload.result.items (g.F.Flash.state c.args.flash.now)
    (g.F.Flash.state c.args.flash.now) c.in-None.ensures refl
    (subst (λ (x : List ℕ). IsAnswered (parts_with (g.R.Runs.runs c.args.runs.now)) c.args.p.now x c.args.text.now c.answer-payload.new.text c.answer-payload.result.items) c.map.ensures c.answer-payload.ensures)
    (cc)
