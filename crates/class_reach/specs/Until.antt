-- Steps that go up the superclasses only to before one of them.
use Rattle.std.specs.Prelude.{List, ◌++◌, Option, Some, None, if◌then◌else◌}
use Rattle.machine.specs.Data.{Id, id_eq}
use Rattle.classes.specs.Classes.{Classes}
use Rattle.classes.specs.Queries.{listed, superclass_of, interfaces_of}

-- the superclass, unless it is the one to before which the steps go
abbrev pub until : Option Id → Option Id → Option Id
until None above = above
until (Some top) None = None
until (Some top) (Some d) = if id_eq d top then None else Some d

-- that superclass of a class, and its interfaces
abbrev pub parents_until : Classes → Option Id → Id → List Id
parents_until cs top c = listed (until top (superclass_of cs c)) ++ interfaces_of cs c
