use Rattle.std.proofs.Common.{sym, ◌∙◌}
use Rattle.looked_rows.specs.Looked.{file_with}
use Rattle.code_order.proofs.RowLaws.{no_body, own_body}
use Rattle.code_order.proofs.rows.method_body.Goals as goal

pub returns-then-is_internal-clause-body : goal.returns-then-is_internal-clause-body
returns-then-is_internal-clause-body c =
    λ row e.
    no_body _ row (file_with c.args.sections.now c.args.tables.now) (c.read_columns-row.ensures row e) (sym c.is_internal.ensures ∙ c.if-is_internal.true)

pub returns-clause-body : goal.returns-clause-body
returns-clause-body c =
    λ row e.
    own_body _ row (file_with c.args.sections.now c.args.tables.now) (c.read_columns-row.ensures row e) _ (sym c.is_internal.ensures ∙ c.if-is_internal.false) c.read_body.ensures.body
