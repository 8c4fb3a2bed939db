-- A way up from a class to another one, on which no member was found.
use Rattle.std.specs.Prelude.{◌≡◌, ℕ, zero, suc, Option, Some, None}
use Rattle.machine.specs.Data.{Id}
use Rattle.classes.specs.Classes.{Classes}
use Rattle.classes.specs.Queries.{superclass_of}

abbrev pub Walked : Classes → (Id → Option Id) → ℕ → Id → Id → Type 0
Walked cs look zero from to = from ≡ to
Walked cs look (suc n) from to = (next : Id) × (look from ≡ None) × (superclass_of cs from ≡ Some next) × Walked cs look n next to
