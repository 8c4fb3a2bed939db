-- Numbers in lists of bytes, the lowest byte first. Bytes past the end of a list count as 0.
use Rattle.std.specs.Prelude.{ℕ, ◌+◌, ◌<◌, nat_le, slice_index, if◌then◌else◌, List, ◌++◌, length, take, drop, Option, Some, None}
use Rattle.byteorder.specs.Endian.{little_number}

abbrev pub AreBytes : List ℕ → Type 0
AreBytes bytes = (i : ℕ) → slice_index bytes i < 256

-- the number of n bytes at a place
unfoldable pub number : ℕ → ℕ → List ℕ → ℕ
number n at bytes = little_number n (drop at bytes)

-- the same where all of its bytes are there
abbrev pub number_inside : ℕ → ℕ → List ℕ → Option ℕ
number_inside n at bytes = if nat_le (at + n) (length bytes) then Some (number n at bytes) else None

-- the bytes with a piece in place of those that stood from a place on
abbrev pub written : ℕ → List ℕ → List ℕ → List ℕ
written at piece bytes = take at bytes ++ piece ++ drop (at + length piece) bytes
