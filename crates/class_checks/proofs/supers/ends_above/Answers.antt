use Rattle.class_queries.specs.declared.chains.Way.TheVariants as way
use Rattle.class_checks.proofs.supers.ends_above.Goals as goal

pub returns : goal.returns
returns c = c.ends.ensures way.Above c.requires.above
