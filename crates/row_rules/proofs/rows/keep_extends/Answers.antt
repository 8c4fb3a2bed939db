use Rattle.std.proofs.Common.{sym, subst, OnOk}
use Rattle.row_rules.specs.Links.{row_at, keeps_each, Adds}
use Rattle.row_rules.proofs.LinkLaws.{adds_none}
use Rattle.row_rules.proofs.TokenLaws.{extends_none, extends_one}
use Rattle.row_rules.proofs.rows.keep_extends.Goals as goal

pub returns-then-extends-eq0 : goal.returns-then-extends-eq0
returns-then-extends-eq0 c =
    subst (λ cs. Adds (keeps_each (row_at c.args.place) cs) c.args.rules.now c.args.rules.now)
    (sym (extends_none c.args.place.file c.args.tables.now c.args.extends c.if-extends-eq0.true))
    (adds_none c.args.rules.now)

pub returns : goal.returns
returns c =
    subst (λ cs. OnOk c.keep_coded.result (Adds (keeps_each (row_at c.args.place) cs) c.args.rules.now c.keep_coded.new.rules))
    (sym (extends_one c.args.place.file c.args.tables.now c.args.extends c.if-extends-eq0.false))
    c.keep_coded.ensures
