-- What a map of first places says.
use Rattle.std.specs.Prelude.{◌≡◌, ℕ, List}
use Rattle.std.specs.List.{position}
use Rattle.std.specs.Ordering.{eq_by_cmp}
use Rattle.std.specs.declared.cmp.Ordering.{Ordering}
use Rattle.std.specs.BTreeMap.{BTreeMap, get}

-- at each key the place of the first one that is equal to it, and nothing where there is none
abbrev pub FindsFirst : {K : Type 0} → (K → K → Ordering) → List K → BTreeMap K ℕ → Type 0
FindsFirst {K} cmp keys places = (wanted : K) → get cmp places wanted ≡ position (eq_by_cmp cmp wanted) keys
