use Rattle.std.proofs.Common.{◌≡◌, Some, None, ap, sym, ◌∙◌}
use Rattle.std.specs.Option.{option_map}
use Rattle.classes.specs.Classes.{ClassToken}
use Rattle.world_rows.specs.Tokens.{from_zero, number_of, table_of, type_specs}
use Rattle.file_tables.specs.Metadata.{row_count}
use Rattle.member_keys.specs.Seen.{type_seen}
use Rattle.operand_facts.specs.Named.{spec_meant}
use Rattle.operand_facts.proofs.TokenLaws.{class_named, spec_named}
use Rattle.operand_facts.proofs.types.find_type.Goals as goal

pub returns-in_err-row : goal.returns-in_err-row
returns-in_err-row c =
    let m = c.tables-tables.result.now in
    let table : table_of c.args.token ≡ type_specs = sym c.split_token-at.ensures.table ∙ c.if-at-eq-TYPE_SPEC.true in
    let number : c.from_zero-n.result ≡ from_zero (row_count m type_specs) (number_of c.args.token) =
    c.from_zero-n.ensures ∙ (ap (λ k. from_zero k c.split_token-at.result.row) c.rows.ensures ∙ ap (from_zero (row_count m type_specs)) c.split_token-at.ensures.row) in
    ap (option_map type_seen) c.from_residual.ensures
    ∙ sym (spec_named c.args.names.now c.args.file m c.tables-tables.ensures c.args.token c.from_zero-n.result table number None c.in_err-row.ensures)

pub returns-in_err-class : goal.returns-in_err-class
returns-in_err-class c =
    let other : table_of c.args.token ≡ type_specs → ⊥ = λ e. c.if-at-eq-TYPE_SPEC.false (c.split_token-at.ensures.table ∙ e) in
    ap (option_map type_seen) c.from_residual-in_err-class.ensures
    ∙ sym (class_named c.args.names.now c.args.file c.args.token other ∙ ap (option_map ClassToken) (sym c.in_err-class.ensures))

pub returns-in_ok-row : goal.returns-in_ok-row
returns-in_ok-row c =
    let m = c.tables-tables.result.now in
    let table : table_of c.args.token ≡ type_specs = sym c.split_token-at.ensures.table ∙ c.if-at-eq-TYPE_SPEC.true in
    let number : c.from_zero-n.result ≡ from_zero (row_count m type_specs) (number_of c.args.token) =
    c.from_zero-n.ensures ∙ (ap (λ k. from_zero k c.split_token-at.result.row) c.rows.ensures ∙ ap (from_zero (row_count m type_specs)) c.split_token-at.ensures.row) in
    c.read_spec.ensures
    ∙ ap (spec_meant c.args.names.now c.args.file) c.bytes.ensures
    ∙ sym (spec_named c.args.names.now c.args.file m c.tables-tables.ensures c.args.token c.from_zero-n.result table number (Some c.in_ok-row.row) c.in_ok-row.ensures)
