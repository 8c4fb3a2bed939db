use Rattle.world_rows.specs.Tokens.{locals_signatures}
use Rattle.image_methods.proofs.ColumnLaws.{no_column}
use Rattle.image_methods.proofs.methods.locals_blob.Goals as goal

pub returns-in-None : goal.returns-in-None
returns-in-None c = no_column c.args.tables.now locals_signatures _ _ c.in-None.ensures
