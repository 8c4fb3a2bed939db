use Rattle.std.proofs.Common.{◌≡◌, ◌+◌, ◌<◌, true, false, Some, ap, sym, ◌∙◌, arith, below_more}
use Rattle.file_tables.specs.Metadata as metadata
use Rattle.cil_tables.proofs.CheckLaws.{row_test, table_kept, table_broken}
use Rattle.cil_tables.proofs.check.check_table.Goals as goal

pub returns-then-not-keeps_columns-clause-broken : goal.returns-then-not-keeps_columns-clause-broken
returns-then-not-keeps_columns-clause-broken c =
    let bad : metadata.is_row c.args.tables.now c.args.table (1 + c.loop-k.k) ≡ false =
    sym (row_test c.args.tables.now c.args.table c.loop-k.k c.loop-k.before.columns c.row-row.result.columns c.loop-k.invariant.before (λ j below. c.row-row.ensures j)) ∙ sym c.keeps_columns.ensures ∙ c.if-not-keeps_columns.true in
    let below : c.loop-k.k < metadata.row_count c.args.tables.now c.args.table = omega (arith, c.loop-k-test.true, c.rows-k-end.ensures) in
    table_broken c.args.tables.now c.args.table c.loop-k.k below c.loop-k.invariant.kept bad ∙ ap Some (sym c.broken_row.ensures)

pub loop-k-preserved : goal.loop-k-preserved
loop-k-preserved c =
    let good : metadata.is_row c.args.tables.now c.args.table (1 + c.loop-k.k) ≡ true =
    sym (row_test c.args.tables.now c.args.table c.loop-k.k c.loop-k.before.columns c.row-row.result.columns c.loop-k.invariant.before (λ j below. c.row-row.ensures j)) ∙ sym c.keeps_columns.ensures ∙ c.if-not-keeps_columns.false in
    record {
      before = λ j below. c.row-row.ensures j;
      kept = below_more (λ j. metadata.is_row c.args.tables.now c.args.table (1 + j) ≡ true) c.loop-k.k c.loop-k.invariant.kept good;
    }

pub returns-clause-kept : goal.returns-clause-kept
returns-clause-kept c =
    table_kept c.args.tables.now c.args.table
    (λ k below. c.loop-k.invariant.kept k (omega (arith, c.loop-k-test.false, c.rows-k-end.ensures)))
