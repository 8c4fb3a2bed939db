-- Offsets in a list of them.
use Rattle.std.specs.Prelude.{ℕ, Bool, List, nat_eq}
use Rattle.std.specs.List.{list_any}

abbrev pub is_among : List ℕ → ℕ → Bool
is_among places n = list_any (λ place. nat_eq place n) places
