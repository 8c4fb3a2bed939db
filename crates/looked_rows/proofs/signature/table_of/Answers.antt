use Rattle.std.proofs.Common.{◌%◌, get_or, ap, sym, ◌∙◌}
use Rattle.std.proofs.lemmas.List.{get_or_default, get_or_past}
use Rattle.file_tables.specs.declared.numbers.TheConstants.{NO_TABLE}
use Rattle.looked_rows.proofs.TokenLaws.{table_is}
use Rattle.looked_rows.proofs.signature.table_of.Goals as goal

pub returns-then-tag-tables : goal.returns-then-tag-tables
returns-then-tag-tables c =
    get_or_default c.tables-tables.result.now (c.args.index % 4) 0 NO_TABLE c.if-tag-tables.true
    ∙ ap (λ tables. get_or tables (c.args.index % 4) NO_TABLE) c.tables-tables.ensures
    ∙ sym (table_is c.args.index)

pub returns-else-tag-tables : goal.returns-else-tag-tables
returns-else-tag-tables c =
    sym (get_or_past c.tables-tables.result.now (c.args.index % 4) NO_TABLE c.if-tag-tables.false)
    ∙ ap (λ tables. get_or tables (c.args.index % 4) NO_TABLE) c.tables-tables.ensures
    ∙ sym (table_is c.args.index)
