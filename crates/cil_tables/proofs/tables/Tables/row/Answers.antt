use Rattle.std.proofs.Common.{◌<◌, ◌≤◌, ◌∙◌}
use Rattle.file_tables.specs.Metadata as metadata
use Rattle.cil_tables.proofs.MetadataLaws.{table_small, row_read}
use Rattle.cil_tables.proofs.tables.Tables.row.Goals as goal

pub bounds-layout-table : goal.bounds-layout-table
bounds-layout-table c = table_small c.self.inside.region.now c.args.table c.args.n c.requires.first (rw c.self.view_is c.requires.last)

pub returns : goal.returns
returns c k =
    let last : c.args.n ≤ metadata.row_count (metadata.metadata_part c.self.inside.region.now) c.args.table = rw c.self.view_is c.requires.last in
    let below : c.args.table < 64 = table_small c.self.inside.region.now c.args.table c.args.n c.requires.first last in
    rw (← c.self.view_is)
    (c.read_row.ensures k ∙ row_read c.self.inside.region.now c.args.table c.args.n k _ (c.self.invariant.layout.tables c.args.table below _) below c.requires.first last)
