use Rattle.std.proofs.Common.{◌≡◌, ◌<◌, suc, Some, subst, ap, sym, ◌∙◌, arith}
use Rattle.std.specs.Prelude.{slice_get}
use Rattle.file_tables.specs.Metadata.{row_count, row_of}
use Rattle.assemblies.specs.Binding.{id_at}
use Rattle.world_rows.specs.Tokens.{type_defs}
use Rattle.class_table.specs.declared.rows.FileRows.{FileRows}
use Rattle.class_table.specs.Seen.{row_seen}
use Rattle.class_queries.specs.Found.{found_row}
use Rattle.verdict_rules.specs.Order.{first_fault}
use Rattle.verdict_rules.specs.Types.{class_tests}
use Rattle.type_tests.specs.Judged.{world_seen}
use Rattle.type_tests.proofs.TypeLaws.{type_nowhere, type_told}
use Rattle.type_tests.proofs.types.type_fault.Goals as goal

pub returns-in_err-row : goal.returns-in_err-row
returns-in_err-row c x at =
    let s = c.args.subject.now in
    let within : c.args.n < row_count c.tables-tables.result.now type_defs = omega (arith, c.rows.ensures, c.if-n-rows.false) in
    let none = sym (c.in_err-row.ensures ∙ ap (λ g. found_row s.setting.table.now (id_at g c.args.n)) c.from.ensures) in
    c.from_residual.ensures
    ∙ type_nowhere s.world.now s.setting.table.now c.requires.subject.table c.args.file c.tables-tables.result.now c.tables-tables.ensures x at c.args.n within none

pub returns : goal.returns
returns c x at =
    let s = c.args.subject.now in
    let t = s.setting.table.now in
    let m = c.tables-tables.result.now in
    let n = c.args.n in
    let r = c.in_ok-row.row.now in
    let within : n < row_count m type_defs = omega (arith, c.rows.ensures, c.if-n-rows.false) in
    let there = sym (c.in_ok-row.ensures ∙ ap (λ g. found_row t (id_at g n)) c.from.ensures) in
    type_told s.world.now t c.requires.subject.table c.args.file m c.tables-tables.ensures x at n within r there c.class_fault.result
    (subst (λ g. (f : FileRows) → slice_get t.files.items c.args.file ≡ Some f → c.class_fault.result ≡ first_fault c.args.file type_defs (suc n) (class_tests (world_seen s.world.now t) m (id_at g n) (row_of m type_defs (suc n)) (row_seen g f r))) c.from.ensures c.class_fault.ensures)
