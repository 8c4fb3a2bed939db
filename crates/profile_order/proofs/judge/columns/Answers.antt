use Rattle.profile_order.proofs.JudgeLaws.{columns_at}
use Rattle.profile_order.proofs.judge.columns.Goals as goal

pub returns : goal.returns
returns c = columns_at c.args.judge.now.subject.now.world.now c.args.judge.now.files.items c.args.file c.from.result c.index.result.now c.requires.judge.files c.requires.file c.from.ensures c.index.ensures
