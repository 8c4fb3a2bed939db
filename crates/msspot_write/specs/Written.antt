-- What the writer answers.
use Rattle.std.specs.Prelude.{◌≡◌, ℕ, List, map, Option, Some}
use Rattle.std.specs.Global.{Vec}
use Rattle.plain_types.specs.declared.fault.Limit.{Limit}
use Rattle.msspot_write.specs.declared.counts.WriteRefusal.{WriteRefusal}
use Rattle.msspot_write.specs.declared.counts.WriteRefusal.TheVariants as refusals

abbrev pub codes_of : List (Vec ℕ) → List (List ℕ)
codes_of codes = map (λ c. c.items) codes

-- a limit is told only where it is the first that is passed; want of memory is free
abbrev pub Refuses : Option Limit → WriteRefusal → Type 0
Refuses over (refusals.Limit l) = over ≡ Some l
Refuses over refusals.NoMemory = Unit {0}
