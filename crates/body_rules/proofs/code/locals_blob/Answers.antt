use Rattle.world_rows.specs.Tokens.{locals_signatures}
use Rattle.body_rules.proofs.CodeLaws.{no_column}
use Rattle.body_rules.proofs.code.locals_blob.Goals as goal

pub returns-in-None : goal.returns-in-None
returns-in-None c = no_column c.args.tables.now locals_signatures _ _ c.in-None.ensures
