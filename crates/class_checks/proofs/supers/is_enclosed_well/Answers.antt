use Rattle.class_queries.specs.declared.chains.Way.TheVariants as way
use Rattle.class_checks.proofs.supers.is_enclosed_well.Goals as goal

pub returns : goal.returns
returns c = c.ends.ensures way.Around c.requires.around
