use Rattle.looked_rows.proofs.TokenLaws.{extends_none, extends_some}
use Rattle.looked_rows.proofs.rows.mark_extends.Goals as goal

pub returns-then-extends-ne0 : goal.returns-then-extends-ne0
returns-then-extends-ne0 c = extends_some c.args.extends c.args.looked.now c.mark_coded.new.looked c.if-extends-ne0.true c.mark_coded.ensures

pub returns-else-extends-ne0 : goal.returns-else-extends-ne0
returns-else-extends-ne0 c = extends_none c.args.extends c.args.looked.now c.if-extends-ne0.false
