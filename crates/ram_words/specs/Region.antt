-- The words of a memory.
use Rattle.std.specs.Prelude.{◌≡◌, ℕ, ◌<◌, ◌≤◌, ◌⊎◌, List, length, slice_index}

-- two regions agree outside the words from a to b
pub record SameBut (a b : ℕ) (ws us : List ℕ) : Type 0 where
  pub size : length us ≡ length ws
  pub at : (i : ℕ) → (i < a) ⊎ (b ≤ i) → slice_index us i ≡ slice_index ws i
