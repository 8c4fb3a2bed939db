use Rattle.std.proofs.Common.{rules, ◌<◌, length}
use Rattle.msspot_read.proofs.MarkLaws.{noted}
use Rattle.msspot_read.proofs.marks.Marks.note.Goals as goal

pub returns-then-on : goal.returns-then-on
returns-then-on c k =
    let h : c.from-word.result < length c.args.self.now.words = search rules in
    rw c.if-on.true (noted c.args.self.now.words c.from-word.result c.args.at c.from-word.ensures h k)
