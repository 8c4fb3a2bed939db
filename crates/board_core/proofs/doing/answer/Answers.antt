use Rattle.board_core.proofs.AnsweredLaws.{plainly}
use Rattle.board_core.proofs.doing.answer.Goals as goal

pub returns-else-asks_run : goal.returns-else-asks_run
returns-else-asks_run g c =
    plainly (g.R.Runs.runs c.args.runs.now) c.args.p.now c.args.content.now c.args.text.now c.plain.result.items (cc) (cc)
