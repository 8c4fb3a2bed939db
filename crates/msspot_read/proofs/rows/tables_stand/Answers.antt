use Rattle.std.proofs.Common.{ℕ, ◌∙◌, sym}
use Rattle.std.specs.List.{list_all}
use Rattle.image_form.specs.Whole.{table}
use Rattle.msspot_read.specs.Held.{reads, tables_read}
use Rattle.msspot_read.specs.declared.rows.TheConstants.{ORDER}
use Rattle.msspot_read.proofs.PartLaws.{all_more}
use Rattle.msspot_read.proofs.rows.tables_stand.Goals as goal

pub loop-number-preserved : goal.loop-number-preserved
loop-number-preserved c =
    let i = c.args.known.now in
    all_more (λ (t : ℕ). list_all (reads i t) (table i t)) ORDER c.loop-number.number-index 0 (tables_read i) c.loop-number-test.true (sym c.table_stands.ensures ∙ c.if-not-table_stands.false) c.loop-number.invariant
