-- Rows of a table, each with a bit that says whether a token named it.
use Rattle.std.specs.Prelude.{◌≡◌, ℕ, suc, ◌+◌, ◌*◌, ◌^◌, ◌==◌, ◌||◌, Bool, List, slice_get}
use Rattle.std.specs.List.{list_any}
use Rattle.std.specs.Option.{option_map}

-- whether one of the tokens names the row of a table, from 0
abbrev pub is_named : ℕ → List ℕ → ℕ → Bool
is_named table tokens n = list_any (λ token. token == table * 2 ^ 24 + suc n) tokens

-- the bits of a table's rows before and after these tokens
abbrev pub Marks : ℕ → List ℕ → List Bool → List Bool → Type 0
Marks table tokens before after = (n : ℕ) → slice_get after n ≡ option_map (λ bit. bit || is_named table tokens n) (slice_get before n)
