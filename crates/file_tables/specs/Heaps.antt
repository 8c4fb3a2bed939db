-- The entries of the heaps (II.24.2.3, II.24.2.4).
use Rattle.std.specs.Prelude.{ℕ, ◌-◌, ◌%◌, ◌==◌, ◌&&◌, ◌||◌, List, length, take, drop, nat_lt, nat_le, if◌then◌else◌, Option, Some, None}
use Rattle.std.specs.Option.{option_and_then}
use Rattle.std.specs.List.{before_first}
use Rattle.std.specs.Str.{is_utf8}
use Rattle.file_tables.specs.Compressed.{compressed_at}

-- the bytes before the first zero byte, or all where there is none
unfoldable pub before_zero : List ℕ → List ℕ
before_zero bytes = before_first (λ b. b == 0) bytes

-- the text at an offset of `#Strings`: a zero byte is reached, and what stands before it is UTF-8
unfoldable pub string_at : List ℕ → ℕ → Option (List ℕ)
string_at heap at =
    let rest = drop at heap in
    let text = before_zero rest in
    if nat_lt (length text) (length rest) && is_utf8 text then Some text else None

-- of a number that was read and the bytes behind it: as many of these as it says, or none where they are fewer
unfoldable pub counted : ℕ × List ℕ → Option (List ℕ)
counted read = if nat_le read.0 (length read.1) then Some (take read.0 read.1) else None

-- the entry at an offset of `#Blob`: a compressed number, and as many bytes as it says
unfoldable pub blob_at : List ℕ → ℕ → Option (List ℕ)
blob_at heap at = option_and_then counted (compressed_at (drop at heap))

-- a literal without its last byte; a literal has no byte at all, or an odd number of them
unfoldable pub units_of : List ℕ → Option (List ℕ)
units_of entry = if length entry == 0 || length entry % 2 == 1 then Some (take (length entry - 1) entry) else None

-- the literal at an offset of `#US`, in UTF-16 bytes
unfoldable pub user_string_at : List ℕ → ℕ → Option (List ℕ)
user_string_at heap at = option_and_then units_of (blob_at heap at)
