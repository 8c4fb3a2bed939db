-- Compressed numbers (ECMA-335 II.23.2).
use Rattle.std.specs.Prelude.{◌≡◌, ℕ, ◌+◌, ◌-◌, ◌*◌, ◌^◌, ◌<◌, ◌≤◌, List, [], ◌∷◌, Option, Some, None, nat_lt, if◌then◌else◌}

-- The bytes spell the number: one, two or four bytes, as the first byte tells, with the highest first.
-- Longer spellings than a number needs spell it too.
abbrev pub IsCompressed : List ℕ → ℕ → Type 0
IsCompressed (a ∷ []) n = (a < 0x80) × (n ≡ a)
IsCompressed (a ∷ b ∷ []) n = (0x80 ≤ a) × (a < 0xC0) × (n ≡ (a - 0x80) * 2 ^ 8 + b)
IsCompressed (a ∷ b ∷ c ∷ d ∷ []) n = (0xC0 ≤ a) × (a < 0xE0) × (n ≡ (a - 0xC0) * 2 ^ 24 + b * 2 ^ 16 + c * 2 ^ 8 + d)
IsCompressed _ n = ⊥

-- the rest of a number of two bytes
abbrev pub second_byte : ℕ → List ℕ → Option (ℕ × List ℕ)
second_byte a (b ∷ rest) = Some ((a - 0x80) * 2 ^ 8 + b, rest)
second_byte a [] = None

-- the rest of a number of four bytes
abbrev pub three_bytes : ℕ → List ℕ → Option (ℕ × List ℕ)
three_bytes a (b ∷ c ∷ d ∷ rest) = Some ((a - 0xC0) * 2 ^ 24 + b * 2 ^ 16 + c * 2 ^ 8 + d, rest)
three_bytes a _ = None

-- the number at the front and the bytes behind it, or none where no number stands there whole
unfoldable pub compressed_at : List ℕ → Option (ℕ × List ℕ)
compressed_at [] = None
compressed_at (a ∷ rest) =
    if nat_lt a 0x80 then Some (a, rest)
    else if nat_lt a 0xC0 then second_byte a rest
    else if nat_lt a 0xE0 then three_bytes a rest
    else None
