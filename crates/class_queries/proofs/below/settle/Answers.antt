use Rattle.std.proofs.Common.{◌∙◌, sym}
use Rattle.class_queries.specs.declared.chains.Way.TheVariants as way
use Rattle.class_queries.proofs.below.settle.Goals as goal

pub decide-answer-requires-clause-ends : goal.decide-answer-requires-clause-ends
decide-answer-requires-clause-ends c = sym (c.ends.ensures way.Above c.requires.above) ∙ c.if-ends.true

pub mark_way-requires-clause-ends : goal.mark_way-requires-clause-ends
mark_way-requires-clause-ends c = sym (c.ends.ensures way.Above c.requires.above) ∙ c.if-ends.true
