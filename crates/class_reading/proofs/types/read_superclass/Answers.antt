use Rattle.std.proofs.Common.{sym, ◌∙◌}
use Rattle.class_reading.proofs.TypeLaws.{no_superclass, some_superclass}
use Rattle.class_reading.proofs.types.read_superclass.Goals as goal

pub returns-then-split-eq0 : goal.returns-then-split-eq0
returns-then-split-eq0 c = no_superclass c.args.names.now c.args.file c.args.tables.now c.requires.tables c.args.extends (sym c.split.ensures.row ∙ c.if-split-eq0.true)

pub returns : goal.returns
returns c = c.find_class.ensures ∙ some_superclass c.args.names.now c.args.file c.args.tables.now c.requires.tables c.args.extends (λ e. c.if-split-eq0.false (c.split.ensures.row ∙ e))
