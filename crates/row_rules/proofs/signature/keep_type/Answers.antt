use Rattle.std.proofs.Common.{sym, subst, ◌∙◌, OnOk}
use Rattle.row_rules.specs.Links.{row_at, keeps_each, Adds}
use Rattle.row_rules.proofs.LinkLaws.{adds_none}
use Rattle.row_rules.proofs.SignatureLaws.{names_one, names_none}
use Rattle.row_rules.proofs.signature.keep_type.Goals as goal

pub returns-then-is_named : goal.returns-then-is_named
returns-then-is_named c =
    subst (λ cs. OnOk c.keep_coded.result (Adds (keeps_each (row_at c.args.place) cs) c.args.rules.now c.keep_coded.new.rules))
    (sym (names_one c.args.place.file c.args.tables.now c.args.of.now (sym c.is_named.ensures ∙ c.if-is_named.true)))
    c.keep_coded.ensures

pub returns-else-is_named : goal.returns-else-is_named
returns-else-is_named c =
    subst (λ cs. Adds (keeps_each (row_at c.args.place) cs) c.args.rules.now c.args.rules.now)
    (sym (names_none c.args.place.file c.args.tables.now c.args.of.now (sym c.is_named.ensures ∙ c.if-is_named.false)))
    (adds_none c.args.rules.now)
