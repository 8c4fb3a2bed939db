use Rattle.std.proofs.Common.{◌<◌, ◌≤◌, sym, ap, ◌∙◌, arith}
use Rattle.std.specs.Prelude.{Some}
use Rattle.file_tables.specs.Metadata.{row_count}
use Rattle.assemblies.specs.Binding.{id_at}
use Rattle.world_rows.specs.Tokens.{type_defs, from_zero}
use Rattle.type_names.proofs.Resolving.{own_named, past_named, other_named, none_named}
use Rattle.type_names.proofs.world.TypeNames.find_row.Goals as goal

pub returns-then-row-rows : goal.returns-then-row-rows
returns-then-row-rows c =
    let past : row_count c.tables-tables.result.now type_defs ≤ c.from_zero-row.result = omega arith in
    sym
    (past_named c.args.self.now c.args.file c.tables-tables.result.now c.tables-tables.ensures c.args.token.table c.args.token.row c.from_zero-row.result c.if-token-eq-TYPE_DEF.true
    (c.from_zero-row.ensures ∙ ap (λ k. from_zero k c.args.token.row) c.rows.ensures) past)

pub returns-else-row-rows : goal.returns-else-row-rows
returns-else-row-rows c =
    let inside : c.from_zero-row.result < row_count c.tables-tables.result.now type_defs = omega arith in
    ap (λ f. Some (id_at f c.from_zero-row.result)) c.from.ensures
    ∙ own_named c.args.self.now c.args.file c.tables-tables.result.now c.tables-tables.ensures c.args.token.table c.args.token.row c.from_zero-row.result c.if-token-eq-TYPE_DEF.true
    (c.from_zero-row.ensures ∙ ap (λ k. from_zero k c.args.token.row) c.rows.ensures) inside

pub returns-then-token-eq-TYPE_REF : goal.returns-then-token-eq-TYPE_REF
returns-then-token-eq-TYPE_REF c =
    c.find_referenced.ensures
    ∙ other_named c.args.self.now c.args.file c.tables-tables.result.now c.tables-tables.ensures c.args.token.table c.args.token.row c.from_zero.result c.if-token-eq-TYPE_REF.true
    (c.from_zero.ensures ∙ ap (λ k. from_zero k c.args.token.row) c.rows-then-token-eq-TYPE_REF.ensures)

pub returns-else-token-eq-TYPE_REF : goal.returns-else-token-eq-TYPE_REF
returns-else-token-eq-TYPE_REF c =
    sym (none_named c.args.self.now c.args.file c.tables-tables.result.now c.tables-tables.ensures c.args.token.table c.args.token.row c.if-token-eq-TYPE_DEF.false c.if-token-eq-TYPE_REF.false)
