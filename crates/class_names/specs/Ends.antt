-- Things of a list by how many are behind them.
use Rattle.std.specs.Prelude.{ℕ, ◌+◌, ◌-◌, nat_lt, if◌then◌else◌, List, length, Option, None, slice_get}

abbrev pub from_end : {A : Type 0} → List A → ℕ → Option A
from_end xs behind = if nat_lt behind (length xs) then slice_get xs (length xs - (behind + 1)) else None
