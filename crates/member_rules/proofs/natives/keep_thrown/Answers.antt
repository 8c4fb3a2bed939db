use Rattle.std.proofs.Common.{sym, subst}
use Rattle.std.specs.Prelude.{OnOk}
use Rattle.class_table.specs.Seen.{body_seen}
use Rattle.row_rules.specs.Links.{row_at, keeps_each, Adds}
use Rattle.row_rules.proofs.LinkLaws.{adds_none}
use Rattle.member_rules.specs.Members.{thrown_by}
use Rattle.member_rules.proofs.natives.keep_thrown.Goals as goal

pub returns-in-Native : goal.returns-in-Native
returns-in-Native c =
    λ cs is.
    subst (λ b. OnOk c.keep_native.result (Adds (keeps_each (row_at c.args.place) (thrown_by cs (body_seen b))) c.args.rules.now c.keep_native.new.rules)) (sym c.in-Native.is) (c.keep_native.ensures cs is)

pub returns-in-Code : goal.returns-in-Code
returns-in-Code c =
    λ cs is.
    subst (λ b. Adds (keeps_each (row_at c.args.place) (thrown_by cs (body_seen b))) c.args.rules.now c.args.rules.now) (sym c.in-Code.is) (adds_none c.args.rules.now)

pub returns-in-Missing : goal.returns-in-Missing
returns-in-Missing c =
    λ cs is.
    subst (λ b. Adds (keeps_each (row_at c.args.place) (thrown_by cs (body_seen b))) c.args.rules.now c.args.rules.now) (sym c.in-Missing.is) (adds_none c.args.rules.now)
