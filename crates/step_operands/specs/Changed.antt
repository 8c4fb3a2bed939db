-- A state of which a thing has changed, or is made.
use Rattle.std.specs.Prelude.{ℕ, List, [], ◌∷◌, ◌++◌}
use Rattle.machine.specs.Data.{Thing, put_thing, State}

abbrev pub put_heap : State → ℕ → Thing → State
put_heap s n x = record s { heap = put_thing s.heap n x }

abbrev pub with_thing : State → Thing → State
with_thing s x = record s { heap = s.heap ++ x ∷ [] }
