-- Where a text ends.
use Rattle.std.specs.Prelude.{◌≡◌, ℕ, ◌+◌, ◌-◌, ◌*◌, ◌/◌, ◌%◌, ◌<◌, ◌≤◌, ◌==◌, Bool, false, List, length, take, drop, is_some, slice_index_or}
use Rattle.std.specs.Str.{IsUtf8}
use Rattle.file_tables.specs.Heaps.{string_at}
use Rattle.std.specs.List.{position_or_len}

abbrev pub is_zero : ℕ → Bool
is_zero b = b == 0

-- the first zero byte stands at n
pub record IsFirstZero (bytes : List ℕ) (n : ℕ) : Type 0 where
  pub place : position_or_len is_zero bytes ≡ n
  pub within : n < length bytes

-- a text begins at an offset of the heap
abbrev pub begins : List ℕ → ℕ → Bool
begins heap at = is_some (string_at heap at)

-- the bytes from at to end have no zero byte and are UTF-8
pub record EndsChar (heap : List ℕ) (at end : ℕ) : Type 0 where
  pub inside : end ≤ length heap
  pub text : IsUtf8 (take (end - at) (drop at heap))
  pub no_zero : position_or_len is_zero (take (end - at) (drop at heap)) ≡ length (take (end - at) (drop at heap))

-- from a place on, what is known of the places at the starts of blocks is so
abbrev pub KnowsFrom : List ℕ → ℕ → List Bool → ℕ → Type 0
KnowsFrom heap block known low = (k : ℕ) → low ≤ k → k < length known → slice_index_or known k false ≡ begins heap (k / 4 * block + k % 4)

-- a place behind another at which a text begins exactly where one begins at the other
pub record StepsTo (heap : List ℕ) (at next : ℕ) : Type 0 where
  pub later : at < next
  pub near : next ≤ at + 4
  pub same : begins heap at ≡ begins heap next
