use Rattle.std.proofs.Common.{sym, ap, ◌∙◌}
use Rattle.std.specs.Prelude.{Some, None}
use Rattle.std.specs.Option.{option_map}
use Rattle.world_rows.specs.Tokens.{from_zero}
use Rattle.member_keys.specs.Seen.{class_seen}
use Rattle.member_references.proofs.ResolveLaws.{own_method_named, referenced_method, other_method}
use Rattle.member_references.proofs.reference.References.find_method.Goals as goal

pub returns-then-token-eq-METHOD_DEF : goal.returns-then-token-eq-METHOD_DEF
returns-then-token-eq-METHOD_DEF c =
    c.own_method.ensures
    ∙ own_method_named c.args.names.now c.args.file c.tables-tables.result.now c.tables-tables.ensures c.args.table.now c.requires.table c.args.token.table c.args.token.row c.from_zero.result c.if-token-eq-METHOD_DEF.true (c.from_zero.ensures ∙ ap (λ k. from_zero k c.args.token.row) c.rows.ensures)

pub returns-in_err-find : goal.returns-in_err-find
returns-in_err-find c =
    ap (option_map class_seen) c.from_residual.ensures
    ∙ referenced_method c.args.names.now c.args.file c.tables-tables.result.now c.tables-tables.ensures c.args.self.now c.requires.references c.args.token.table c.args.token.row c.if-token-eq-MEMBER_REF.true None c.in_err-find.ensures

pub returns-in_ok-find : goal.returns-in_ok-find
returns-in_ok-find c =
    c.method.ensures
    ∙ referenced_method c.args.names.now c.args.file c.tables-tables.result.now c.tables-tables.ensures c.args.self.now c.requires.references c.args.token.table c.args.token.row c.if-token-eq-MEMBER_REF.true (Some c.in_ok-find.field-0) c.in_ok-find.ensures

pub returns-else-token-eq-MEMBER_REF : goal.returns-else-token-eq-MEMBER_REF
returns-else-token-eq-MEMBER_REF c =
    sym (other_method c.args.names.now c.args.file c.tables-tables.result.now c.tables-tables.ensures c.args.token.table c.args.token.row c.if-token-eq-METHOD_DEF.false c.if-token-eq-MEMBER_REF.false)
