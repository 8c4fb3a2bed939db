use Rattle.std.proofs.Common.{◌∙◌}
use Rattle.msspot_write.specs.Parts.{tables, pools_of}
use Rattle.msspot_write.specs.Written.{codes_of}
use Rattle.msspot_write.proofs.CountLaws.{tables_long}
use Rattle.msspot_write.proofs.counts.counted.Goals as goal

pub returns-clause-rows : goal.returns-clause-rows
returns-clause-rows c = c.row_counts-rows.ensures ∙ tables_long (pools_of c.args.parts.now) c.args.parts.now (codes_of c.args.codes.now) 0 tables
