-- Numbers and ranges of bytes in a file. Bytes past the end of a list count as 0.
use Rattle.std.specs.Prelude.{ℕ, ◌+◌, ◌*◌, ◌/◌, ◌%◌, ◌^◌, ◌==◌, Bool, List, take, drop, slice_index}

-- the little-endian number of two, four or eight bytes at an offset
unfoldable pub u16_at : List ℕ → ℕ → ℕ
u16_at bytes at = slice_index bytes at + 256 * slice_index bytes (at + 1)

unfoldable pub u32_at : List ℕ → ℕ → ℕ
u32_at bytes at = u16_at bytes at + 65536 * u16_at bytes (at + 2)

unfoldable pub u64_at : List ℕ → ℕ → ℕ
u64_at bytes at = u32_at bytes at + 2 ^ 32 * u32_at bytes (at + 4)

-- the bytes of a range
abbrev pub range_of : List ℕ → ℕ → ℕ → List ℕ
range_of bytes at len = take len (drop at bytes)

-- bit k of a number is set
abbrev pub has_bit : ℕ → ℕ → Bool
has_bit n k = (n / 2 ^ k) % 2 == 1
