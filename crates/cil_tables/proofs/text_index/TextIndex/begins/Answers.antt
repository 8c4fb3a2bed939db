use Rattle.std.proofs.Common.{sym}
use Rattle.cil_tables.proofs.CharLaws.{none_behind}
use Rattle.cil_tables.proofs.text_index.TextIndex.begins.Goals as goal

pub returns-then-at-self : goal.returns-then-at-self
returns-then-at-self c = rw (← c.self.view_is) (sym (none_behind c.self.inside.heap.now c.args.at c.if-at-self.true))
