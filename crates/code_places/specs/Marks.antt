-- Bits of offsets after more of them are added.
use Rattle.std.specs.Prelude.{◌≡◌, ℕ, ◌<◌, Bool, false, ◌||◌, List, length, slice_index_or}
use Rattle.code_places.specs.Among.{is_among}

pub record Marks (places : List ℕ) (old new : List Bool) : Type 0 where
  pub size : length new ≡ length old
  pub each : (n : ℕ) → n < length old → slice_index_or new n false ≡ (slice_index_or old n false || is_among places n)
