use Rattle.std.proofs.Common.{sym, ap, ◌∙◌}
use Rattle.std.specs.Option.{option_copied}
use Rattle.code_order.proofs.RowLaws.{a_method, no_method}
use Rattle.code_order.proofs.rows.has_code.Goals as goal

pub returns-in-Some : goal.returns-in-Some
returns-in-Some c =
    λ files x table.
    a_method c.args.table.now c.args.method.file c.args.method.row files table x c.in-Some.row.now c.is_coded.result (sym c.find_method.ensures ∙ ap option_copied c.in-Some.is) c.is_coded.ensures

pub returns-in-None : goal.returns-in-None
returns-in-None c =
    λ files x table.
    no_method c.args.table.now c.args.method.file c.args.method.row files table x (sym c.find_method.ensures ∙ ap option_copied c.in-None.is)
