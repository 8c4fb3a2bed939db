use Rattle.std.proofs.Common.{sym, subst}
use Rattle.std.specs.Prelude.{OnOk}
use Rattle.row_rules.specs.Links.{row_at, row_if, keeps_each, Adds}
use Rattle.row_rules.proofs.LinkLaws.{adds_none}
use Rattle.member_rules.specs.Members.{rows_where}
use Rattle.member_rules.proofs.NativeLaws.{none_where}
use Rattle.member_rules.proofs.natives.keep_class.Goals as goal

pub returns-in-Some : goal.returns-in-Some
returns-in-Some c =
    subst (λ o. OnOk c.keep_if.result (Adds (keeps_each (row_at c.args.place) (rows_where c.args.throws (row_if o))) c.args.rules.now c.keep_if.new.rules)) (sym c.in-Some.is) c.keep_if.ensures

pub returns-in-None : goal.returns-in-None
returns-in-None c =
    subst (λ o. Adds (keeps_each (row_at c.args.place) (rows_where c.args.throws (row_if o))) c.args.rules.now c.args.rules.now) (sym c.in-None.is)
    (subst (λ rows. Adds (keeps_each (row_at c.args.place) rows) c.args.rules.now c.args.rules.now) (sym (none_where c.args.throws)) (adds_none c.args.rules.now))
