-- What the readers of the code give, seen as parts.
use Rattle.std.specs.Prelude.{◌≡◌, Result, Ok, Err}
use Rattle.cil_sig.specs.declared.stop.NoCase.{NoCase}
use Rattle.cil_sig.specs.declared.stop.Stop.{Stop}
use Rattle.cil_sig.specs.declared.stop.Stop.TheVariants as stops
use Rattle.cil_sig.specs.Reading.{Part}

-- The result, its value seen by view, is the part.
abbrev pub Gives : {X Y : Type 0} → (X → Y) → Result X NoCase → Part Y → Type 0
Gives view (Ok x) part = part ≡ Ok (view x)
Gives view (Err no_case) part = part ≡ Err no_case.left

abbrev pub Stops : {Y : Type 0} → Stop → Part Y → Type 0
Stops stops.NoMemory part = Unit {0}
Stops (stops.NoCase no_case) part = part ≡ Err no_case.left

-- The same, unless memory ran out.
abbrev pub Reaches : {X Y : Type 0} → (X → Y) → Result X Stop → Part Y → Type 0
Reaches view (Ok x) part = part ≡ Ok (view x)
Reaches view (Err stop) part = Stops stop part
