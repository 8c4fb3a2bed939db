use Rattle.std.proofs.Common.{ap}
use Rattle.std.specs.Prelude.{Err}
use Rattle.board_core.specs.Asked.{operation_of}
use Rattle.board_core.proofs.OperatedLaws.{whole_answers, failed_answers}
use Rattle.board_core.proofs.operating.handle_operation.Goals as goal

pub returns-in-Ok : goal.returns-in-Ok
returns-in-Ok g c = whole_answers c.args.p.now c.reply_to.result (operation_of c.args.asked.now) _ _ c.requires.asked c.in-Ok.ensures.ok c.reply_to.ensures

pub returns-in-Err-Failed : goal.returns-in-Err-Failed
returns-in-Err-Failed g c =
    failed_answers c.args.p.now c.reply_to-in-Err-Failed.result (operation_of c.args.asked.now) _ _ c.requires.asked (c.in-Err-Failed.ensures.failed (ap Err c.in-Err-Failed.field-0-is)) c.reply_to-in-Err-Failed.ensures
