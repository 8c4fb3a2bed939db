-- What an operation does to the content of a flash, and what a stop of it may leave.
use Rattle.std.specs.Prelude.{◌≡◌, ℕ, ◌+◌, ◌-◌, ◌*◌, ◌%◌, ◌<◌, ◌≤◌, ◌==◌, nat_le, nat_lt, Bool, ◌&&◌, ◌||◌, IsTrue, if◌then◌else◌, List, length, map, slice_index, bit_and, bit_xor}
use Rattle.std.specs.List.{range_with_len}
pub use Rattle.little_endian.specs.Numbers.{AreBytes}

-- an operation: bytes at a place, or a sector of 8,192 bytes
pub data Operation : Type 0 where
  Program : (at : ℕ) (bytes : List ℕ) → Operation
  Erase : (sector : ℕ) → Operation

-- the operation lies inside the 262,144 bytes
abbrev pub IsPossible : Operation → Type 0
IsPossible (Program at bytes) = (0 < length bytes) × (length bytes ≤ 8192) × (at + length bytes ≤ 262144)
IsPossible (Erase sector) = sector < 32

-- the range of an operation
abbrev pub start : Operation → ℕ
start (Program at bytes) = at
start (Erase sector) = 8192 * sector

abbrev pub span : Operation → ℕ
span (Program at bytes) = length bytes
span (Erase sector) = 8192

abbrev pub covers : Operation → ℕ → Bool
covers op place = nat_le (start op) place && nat_lt place (start op + span op)

-- a list that f makes byte by byte of another, from the place and the old byte
abbrev pub by_place : (ℕ → ℕ → ℕ) → List ℕ → List ℕ
by_place f bytes = map (λ place. f place (slice_index bytes place)) (range_with_len 0 (length bytes))

-- what an operation makes of the i-th byte of its range: a program can only clear bits, an erase sets all
abbrev pub wanted : Operation → ℕ → ℕ → ℕ
wanted (Program at bytes) i old = bit_and old (slice_index bytes i)
wanted (Erase sector) i old = 0xFF

-- the content after a whole operation
unfoldable pub after : Operation → List ℕ → List ℕ
after op content = by_place (λ place old. if covers op place then wanted op (place - start op) old else old) content

-- each bit of the byte is a bit of old or of new: no bit differs from both
abbrev pub mixes : ℕ → ℕ → ℕ → Bool
mixes old new byte = bit_and (bit_xor byte old) (bit_xor byte new) == 0

-- a stop may leave this byte as the i-th one of the range
abbrev pub may_stand : Operation → ℕ → ℕ → ℕ → Bool
may_stand (Program at bytes) i old byte = mixes old (wanted (Program at bytes) i old) byte
may_stand (Erase sector) i old byte = (byte == old) || (byte == wanted (Erase sector) i old)

-- a content that a stopped operation may leave
pub record IsStopped (op : Operation) (old new : List ℕ) : Type 0 where
  pub size : length new ≡ length old
  pub bytes : (place : ℕ) → place < length old → IsTrue (if covers op place then may_stand op (place - start op) (slice_index old place) (slice_index new place) else (slice_index new place == slice_index old place))

-- what a mask byte leaves of the i-th byte of the range. In a program a one takes the new bit and a zero the old
-- one: the bits are flipped in which the two differ and the mask has a one. In an erase the lowest bit takes 0xFF or
-- the old byte
abbrev pub chosen : Operation → ℕ → ℕ → ℕ → ℕ
chosen (Program at bytes) i mask old = bit_xor old (bit_and mask (bit_xor old (wanted (Program at bytes) i old)))
chosen (Erase sector) i mask old = if mask % 2 == 1 then wanted (Erase sector) i old else old

-- the content that a mask spells; its bytes are used in turn, from the first byte of the range on
unfoldable pub cut : Operation → List ℕ → List ℕ → List ℕ
cut op mask content =
    by_place (λ place old. if covers op place then chosen op (place - start op) (slice_index mask ((place - start op) % length mask)) old else old) content
