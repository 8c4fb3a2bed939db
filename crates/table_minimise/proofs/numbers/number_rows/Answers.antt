use Rattle.std.proofs.Common.{◌≡◌, List, sym, subst}
use Rattle.std.proofs.lemmas.Result.{IfOk-weaker}
use Rattle.world_rows.specs.World.{assemblies_of}
use Rattle.row_numbers.specs.declared.table.PerTable.{PerTable}
use Rattle.row_numbers.specs.Tables.{AreCounts}
use Rattle.row_counts.proofs.CountLaws.{world_counts}
use Rattle.table_minimise.proofs.numbers.number_rows.Goals as goal

pub returns : goal.returns
returns c =
    let files = c.args.world.now in
    let counts = c.in_ok-counts.counts.items in
    IfOk-weaker c.new.result (λ (n : List PerTable). n ≡ counts) (AreCounts (assemblies_of files))
    (λ n e. subst (AreCounts (assemblies_of files)) (sym e) (world_counts files counts c.in_ok-counts.ensures))
    c.new.ensures
