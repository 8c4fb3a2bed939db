-- Ways from a class: up its superclasses, through its interfaces, and out of the types that it is nested in.
use Rattle.std.specs.Prelude.{List}
use Rattle.machine.specs.Data.{Id}
use Rattle.classes.specs.Classes.{Classes}
use Rattle.classes.specs.Queries.{listed, above, interfaces_of, enclosing_of}
use Rattle.class_queries.specs.declared.chains.Way.{Way}
use Rattle.class_queries.specs.declared.chains.Way.TheVariants as way

abbrev pub nexts : Way → Classes → Id → List Id
nexts way.Above cs c = above cs c
nexts way.Interfaces cs c = interfaces_of cs c
nexts way.Around cs c = listed (enclosing_of cs c)
