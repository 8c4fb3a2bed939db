use Rattle.std.proofs.Common.{◌≡◌, true, false, get_or, ap, sym, ◌∙◌, arith, below_more}
use Rattle.std.specs.Prelude.{slice_index}
use Rattle.std.proofs.lemmas.List.{get_or_default}
use Rattle.file_tables.specs.declared.schema.Column.TheVariants.{Two}
use Rattle.file_tables.specs.Metadata as metadata
use Rattle.cil_tables.proofs.CheckLaws.{all_pass_from_0, one_fails_from_0}
use Rattle.cil_tables.proofs.check.keeps_columns.Goals as goal

pub returns-then-not-keeps_column : goal.returns-then-not-keeps_column
returns-then-not-keeps_column c =
    let items = c.columns-column-items.result.now in
    let bad : metadata.is_column c.args.tables.now (get_or items c.loop-k.k Two) (get_or c.args.before.now.columns c.loop-k.k 0) (get_or c.args.row.now.columns c.loop-k.k 0) ≡ false =
    ap (λ x. metadata.is_column c.args.tables.now x (get_or c.args.before.now.columns c.loop-k.k 0) (get_or c.args.row.now.columns c.loop-k.k 0)) (get_or_default items c.loop-k.k Two _ c.loop-k-test.true)
    ∙ sym c.keeps_column.ensures ∙ c.if-not-keeps_column.true in
    rw (← c.columns-column-items.ensures)
    (sym (one_fails_from_0 (λ x. metadata.is_column c.args.tables.now x.1 (slice_index c.args.before.now.columns x.0) (slice_index c.args.row.now.columns x.0)) items Two c.loop-k.k c.loop-k-test.true bad))

pub loop-k-preserved : goal.loop-k-preserved
loop-k-preserved c =
    let items = c.columns-column-items.result.now in
    let good : metadata.is_column c.args.tables.now (get_or items c.loop-k.k Two) (get_or c.args.before.now.columns c.loop-k.k 0) (get_or c.args.row.now.columns c.loop-k.k 0) ≡ true =
    ap (λ x. metadata.is_column c.args.tables.now x (get_or c.args.before.now.columns c.loop-k.k 0) (get_or c.args.row.now.columns c.loop-k.k 0)) (get_or_default items c.loop-k.k Two _ c.loop-k-test.true)
    ∙ sym c.keeps_column.ensures ∙ c.if-not-keeps_column.false in
    below_more (λ j. metadata.is_column c.args.tables.now (get_or items j Two) (get_or c.args.before.now.columns j 0) (get_or c.args.row.now.columns j 0) ≡ true) c.loop-k.k c.loop-k.invariant good

pub returns : goal.returns
returns c =
    let items = c.columns-column-items.result.now in
    rw (← c.columns-column-items.ensures)
    (sym
    (all_pass_from_0 (λ x. metadata.is_column c.args.tables.now x.1 (slice_index c.args.before.now.columns x.0) (slice_index c.args.row.now.columns x.0)) items Two
    (λ j below. c.loop-k.invariant j (omega arith))))
