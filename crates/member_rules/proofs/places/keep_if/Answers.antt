use Rattle.std.proofs.Common.{sym, subst}
use Rattle.std.specs.Prelude.{OnOk}
use Rattle.row_rules.specs.Links.{row_at, keeps_each, Adds}
use Rattle.row_rules.proofs.LinkLaws.{adds_none}
use Rattle.member_rules.specs.Members.{row_where}
use Rattle.member_rules.proofs.places.keep_if.Goals as goal

pub returns-then-passes : goal.returns-then-passes
returns-then-passes c =
    subst (λ b. OnOk c.keep.result (Adds (keeps_each (row_at c.args.place) (row_where b (row_at c.args.then))) c.args.rules.now c.keep.new.self)) (sym c.if-passes.true) c.keep.ensures

pub returns-else-passes : goal.returns-else-passes
returns-else-passes c =
    subst (λ b. Adds (keeps_each (row_at c.args.place) (row_where b (row_at c.args.then))) c.args.rules.now c.args.rules.now) (sym c.if-passes.false) (adds_none c.args.rules.now)
